-- Bytes by their places: the parts of a block, read off one by one and put together again.
use Rattle.std.proofs.Common.{◌≡◌, ℕ, ◌+◌, ◌≤◌, true, ◌&&◌, eqb, List, [], ◌∷◌, ◌++◌, length, get_or, take, drop, sym, refl, ap, ◌∙◌, arith, length-drop, length-take, get_or-drop, get_or-take}
use Rattle.std.proofs.lemmas.List.FromFn.{fill_by_all}
use Rattle.std.proofs.lemmas.List.Sums.{AllPass-from_list_all}
use Rattle.std.proofs.lemmas.List.{drop_more, drop-drop, take-append-drop}
use Rattle.std.proofs.lemmas.Bool.{and_parts, and_from, eqb-true, eq-eqb}
use Rattle.kinds.proofs.WordLaws.{eight}
use Rattle.blocks.specs.Layout.{block_len, laid, is_laid, all_zero}

pub four : (xs : List ℕ) → length xs ≡ 4 → xs ≡ get_or xs 0 0 ∷ get_or xs 1 0 ∷ get_or xs 2 0 ∷ get_or xs 3 0 ∷ []
four xs h = fill_by_all (λ k. get_or xs k 0) xs 4 0 h (λ k p. refl)

pub lays : (t : ℕ) (r a v : List ℕ) → length r ≡ 4 → length a ≡ 4 → length v ≡ 8 → (t ∷ 0 ∷ 0 ∷ 0 ∷ get_or r 0 0 ∷ get_or r 1 0 ∷ get_or r 2 0 ∷ get_or r 3 0 ∷ get_or a 0 0 ∷ get_or a 1 0 ∷ get_or a 2 0 ∷ get_or a 3 0 ∷ get_or v 0 0 ∷ get_or v 1 0 ∷ get_or v 2 0 ∷ get_or v 3 0 ∷ get_or v 4 0 ∷ get_or v 5 0 ∷ get_or v 6 0 ∷ get_or v 7 0 ∷ []) ≡ laid t r a v
lays t r a v p q s =
    let r' = get_or r 0 0 ∷ get_or r 1 0 ∷ get_or r 2 0 ∷ get_or r 3 0 ∷ [] in
    let a' = get_or a 0 0 ∷ get_or a 1 0 ∷ get_or a 2 0 ∷ get_or a 3 0 ∷ [] in
    sym (ap (λ x. laid t x a v) (four r p) ∙ ap (λ x. laid t r' x v) (four a q) ∙ ap (λ x. laid t r' a' x) (eight v s))

pub laid_same : {t t' : ℕ} {r r' a a' v v' : List ℕ} → t ≡ t' → r ≡ r' → a ≡ a' → v ≡ v' → laid t r a v ≡ laid t' r' a' v'
laid_same p q s w = cc

-- a list is its front and its rest
front : (b : List ℕ) → length b ≡ block_len → b ≡ get_or b 0 0 ∷ get_or b 1 0 ∷ get_or b 2 0 ∷ get_or b 3 0 ∷ drop 4 b
front b h = drop_more b 0 0 (omega arith) ∙ ap (λ l. get_or b 0 0 ∷ l) (drop_more b 1 0 (omega arith)) ∙ ap (λ l. get_or b 0 0 ∷ get_or b 1 0 ∷ l) (drop_more b 2 0 (omega arith)) ∙ ap (λ l. get_or b 0 0 ∷ get_or b 1 0 ∷ get_or b 2 0 ∷ l) (drop_more b 3 0 (omega arith))

-- a block whose three bytes are 00 is laid out from its parts
pub relaid : (b : List ℕ) → is_laid b ≡ true → b ≡ laid (get_or b 0 0) (take 4 (drop 4 b)) (take 4 (drop 8 b)) (drop 12 b)
relaid b e =
    let p = and_parts (eqb (length b) block_len) (eqb (get_or b 1 0) 0 && (eqb (get_or b 2 0) 0 && eqb (get_or b 3 0) 0)) e in
    let q = and_parts (eqb (get_or b 1 0) 0) (eqb (get_or b 2 0) 0 && eqb (get_or b 3 0) 0) p.1 in
    let r = and_parts (eqb (get_or b 2 0) 0) (eqb (get_or b 3 0) 0) q.1 in
    let sized = eqb-true (length b) block_len p.0 in
    let tail : drop 4 b ≡ take 4 (drop 4 b) ++ (take 4 (drop 8 b) ++ drop 12 b) = sym (take-append-drop 4 (drop 4 b)) ∙ ap (λ l. take 4 (drop 4 b) ++ l) (drop-drop 4 4 b ∙ sym (take-append-drop 4 (drop 8 b)) ∙ ap (λ l. take 4 (drop 8 b) ++ l) (drop-drop 4 8 b)) in
    front b sized ∙ ap (λ x. get_or b 0 0 ∷ x ∷ get_or b 2 0 ∷ get_or b 3 0 ∷ drop 4 b) (eqb-true (get_or b 1 0) 0 q.0) ∙ ap (λ x. get_or b 0 0 ∷ 0 ∷ x ∷ get_or b 3 0 ∷ drop 4 b) (eqb-true (get_or b 2 0) 0 r.0) ∙ ap (λ x. get_or b 0 0 ∷ 0 ∷ 0 ∷ x ∷ drop 4 b) (eqb-true (get_or b 3 0) 0 r.1) ∙ ap (λ l. get_or b 0 0 ∷ 0 ∷ 0 ∷ 0 ∷ l) tail

pub eight_zeros : (xs : List ℕ) → length xs ≡ 8 → all_zero xs ≡ true → xs ≡ 0 ∷ 0 ∷ 0 ∷ 0 ∷ 0 ∷ 0 ∷ 0 ∷ 0 ∷ []
eight_zeros xs h e = fill_by_all (λ k. 0) xs 8 0 h (λ k p. eqb-true (get_or xs k 0) 0 (AllPass-from_list_all (λ x. eqb x 0) xs e k 0 (omega arith)))

pub is_laid_by : (b : List ℕ) → length b ≡ block_len → get_or b 1 0 ≡ 0 → get_or b 2 0 ≡ 0 → get_or b 3 0 ≡ 0 → is_laid b ≡ true
is_laid_by b p q r s =
    and_from (eqb (length b) block_len) (eqb (get_or b 1 0) 0 && (eqb (get_or b 2 0) 0 && eqb (get_or b 3 0) 0)) (eq-eqb (length b) block_len p) (and_from (eqb (get_or b 1 0) 0) (eqb (get_or b 2 0) 0 && eqb (get_or b 3 0) 0) (eq-eqb (get_or b 1 0) 0 q) (and_from (eqb (get_or b 2 0) 0) (eqb (get_or b 3 0) 0) (eq-eqb (get_or b 2 0) 0 r) (eq-eqb (get_or b 3 0) 0 s)))
