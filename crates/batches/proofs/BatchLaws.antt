-- Eight bytes that read as a batch are its image, and its text gives it back.
use Rattle.std.proofs.Common.{◌≡◌, ℕ, ◌^◌, ◌<◌, true, false, ltb, ◌⊎◌, List, length, get_or, Some, None, Option, sym, ap, ◌∙◌, inl, inr, arith}
use Rattle.std.proofs.lemmas.Bool.{cases_Bool, cond-true, cond-false, lt-ltb}
use Rattle.std.proofs.lemmas.Bool.Decides.{nat_tests}
use Rattle.batches.specs.declared.batch.Batch.{Batch}
use Rattle.batches.specs.BatchForms.{batch, batch_image, batch_of_image, is_batch_image, batch_text, batch_from, batch_of_text}
use Rattle.kinds.specs.Words.{word32}
use Rattle.std.proofs.lemmas.Option.{none-some}
use Rattle.decimals.proofs.DecimalLaws.{back_decimal}
use Rattle.kinds.proofs.WordLaws.{bytes_of_word, eight}

pub only_batch_image : (xs : List ℕ) → length xs ≡ 8 → get_or xs 4 0 < 256 → get_or xs 5 0 < 256 → get_or xs 6 0 < 256 → get_or xs 7 0 < 256 → (b : Batch) → batch_of_image xs ≡ Some b → xs ≡ batch_image b
only_batch_image xs long p q r s b e = by (cases_Bool (is_batch_image xs))
  where
    read : Option Batch
    read = Some (batch (word32 (get_or xs 4 0) (get_or xs 5 0) (get_or xs 6 0) (get_or xs 7 0)))

    by : ((is_batch_image xs ≡ true) ⊎ (is_batch_image xs ≡ false)) → xs ≡ batch_image b
    by (inl t) =
        let kind : get_or xs 0 0 ≡ 0x42 = grind (arith, nat_tests) in
        let one : get_or xs 1 0 ≡ 0 = grind (arith, nat_tests) in
        let two : get_or xs 2 0 ≡ 0 = grind (arith, nat_tests) in
        let three : get_or xs 3 0 ≡ 0 = grind (arith, nat_tests) in
        let some = cond-true (is_batch_image xs) read None t in
        let bytes = bytes_of_word (get_or xs 4 0) (get_or xs 5 0) (get_or xs 6 0) (get_or xs 7 0) p q r s in
        let all = eight xs long in
        cc
    by (inr f) = absurd (none-some _ (sym (cond-false (is_batch_image xs) read None f) ∙ e))

pub back_batch_text : (b : Batch) → b.number < 2 ^ 32 → batch_of_text (batch_text b) ≡ Some b
back_batch_text b h = ap batch_from (back_decimal b.number (omega arith)) ∙ cond-true (ltb b.number (2 ^ 32)) (Some b) None (lt-ltb _ _ h)
