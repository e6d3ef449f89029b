-- The cells of a list of bytes, as a bank on it reads and writes them.
use Rattle.std.proofs.Common.{◌≡◌, ℕ, ◌+◌, ◌-◌, ◌*◌, ◌<◌, ◌≤◌, ◌⊎◌, List, ◌++◌, length, get_or, take, drop, set, Some, None, Ok, Option, sym, ap, ◌∙◌, inl, inr, arith, length-drop, length-set, length-take, get_or-set_other, get_or-set_same}
use borrow.Rule.Slice.PartMut.{put_mid, mid_of, same_len_mid}
use Rattle.std.proofs.lemmas.List.FromFn.{length-map-range_with_len, get_or-map-range_with_len}
use Rattle.std.proofs.lemmas.List.{ext_get_or, drop-drop}
use Rattle.std.proofs.lemmas.Slice.{between_is, between-put_mid, drop-put_mid, take-put_mid_below}
use Rattle.std.proofs.lemmas.Bool.{cases_eq, cases_lt, cond-true}
use Rattle.registers.specs.declared.record.Fields.{Fields}
use Rattle.registers.specs.declared.record.Record.{Record}
use Rattle.registers.specs.Records.{made}
use Rattle.registers.specs.Cells.{cell_answer, read_answer, made_answer, write_answer, made_cells, write_cells}
use Rattle.registers.proofs.Answering.{reads, writes_answer, writes_cells, write_length, stands_true}
use Rattle.blocks.specs.Layout.{block_len}
use Rattle.blocks.specs.Blocks.{encoded, decoded}
use Rattle.blocks.specs.BlockCells.{block_count, block_at, block_cells, made_bytes, write_bytes, rest_bytes}

module _ {V : Type 0} (of_image : List ℕ → Option V) (bs : List ℕ) where
  pub blocks_length : length (block_cells of_image bs) ≡ block_count (length bs)
  blocks_length = length-map-range_with_len (λ k. decoded of_image (block_at bs k)) 0 (block_count (length bs))

  pub blocks_at : (k : ℕ) → k < block_count (length bs) → get_or (block_cells of_image bs) k None ≡ decoded of_image (block_at bs k)
  blocks_at k h = get_or-map-range_with_len (λ k. decoded of_image (block_at bs k)) 0 (block_count (length bs)) k k None h (omega arith)

module _ {V : Type 0} (of_image : List ℕ → Option V) (bs : List ℕ) where
  -- a read of register j, which has the index i, decodes the part of the bytes that the code takes
  pub blocks_read : (i j n : ℕ) → i < length (block_cells of_image bs) → i + 1 ≡ j → n ≡ block_len → cell_answer (decoded of_image (take n (drop (block_len * i) bs))) ≡ read_answer (block_cells of_image bs) j
  blocks_read i j n p q e =
      let within : i < block_count (length bs) = omega (arith, p, blocks_length of_image bs) in
      let back : j - 1 ≡ i = omega arith in
      ap (λ m. cell_answer (decoded of_image (take m (drop (block_len * i) bs)))) e
      ∙ sym (reads (block_cells of_image bs) j (omega arith) (omega arith) ∙ ap (λ k. cell_answer (get_or (block_cells of_image bs) k None)) back ∙ ap cell_answer (blocks_at of_image bs i within))

  -- the cells of other bytes, as many, that differ in one block at most
  blocks_set : (new : List ℕ) (i : ℕ) (x : Option (Record V)) → i < block_count (length bs) → length new ≡ length bs → ((k : ℕ) → (k ≡ i → ⊥) → block_at new k ≡ block_at bs k) → decoded of_image (block_at new i) ≡ x → block_cells of_image new ≡ set (block_cells of_image bs) i x
  blocks_set new i x h same others here = ext_get_or None (block_cells of_image new) (set (block_cells of_image bs) i x) lengths (λ k p. each k (omega (arith, p, long)) (cases_eq k i))
    where
      long : length (block_cells of_image new) ≡ block_count (length bs)
      long = blocks_length of_image new ∙ ap block_count same

      lengths : length (block_cells of_image new) ≡ length (set (block_cells of_image bs) i x)
      lengths = long ∙ sym (length-set (block_cells of_image bs) i x ∙ blocks_length of_image bs)

      at_new : (k : ℕ) → k < block_count (length bs) → get_or (block_cells of_image new) k None ≡ decoded of_image (block_at new k)
      at_new k p = blocks_at of_image new k (rw same p)

      each : (k : ℕ) → k < block_count (length bs) → ((k ≡ i) ⊎ (k ≡ i → ⊥)) → get_or (block_cells of_image new) k None ≡ get_or (set (block_cells of_image bs) i x) k None
      each k p (inl e) =
          let inner : i < length (block_cells of_image bs) = omega (arith, h, blocks_length of_image bs) in
          at_new k p ∙ ap (λ j. decoded of_image (block_at new j)) e ∙ here ∙ sym (ap (λ j. get_or (set (block_cells of_image bs) i x) j None) e ∙ get_or-set_same (block_cells of_image bs) i x None inner)
      each k p (inr n) = at_new k p ∙ ap (decoded of_image) (others k n) ∙ sym (get_or-set_other (block_cells of_image bs) i k x None n ∙ blocks_at of_image bs k p)

-- the bytes after 20 of them are written from 20 * i on
module _ (bs ys : List ℕ) (i k : ℕ) (full : k ≡ block_len) (sized : length ys ≡ block_len) (room : block_len * i + block_len ≤ length bs) where
  abbrev new : List ℕ
  new = put_mid (block_len * i) k bs ys

  start : block_len * i ≤ length bs
  start = omega arith

  put_length : length new ≡ length bs
  put_length =
      let mid : length ys ≡ length (mid_of (block_len * i) k bs) = simp (length-take, length-drop) (omega arith) in
      same_len_mid (block_len * i) k bs ys mid

  put_here : block_at new i ≡ ys
  put_here =
      let size : block_len ≡ block_len * i + block_len - block_len * i = omega arith in
      ap (λ m. take m (drop (block_len * i) new)) size ∙ between-put_mid (block_len * i) k bs ys (block_len * i + block_len) start (sized ∙ size)

  put_past : (n : ℕ) → block_len * i + block_len ≤ n → drop n new ≡ drop n bs
  put_past n h = drop-put_mid (block_len * i) k bs ys n (omega arith) start (omega arith)

  put_before : (m : ℕ) → m < i → block_at new m ≡ block_at bs m
  put_before m h =
      let size : block_len ≡ block_len * m + block_len - block_len * m = omega arith in
      let part = λ (l : List ℕ). ap (λ n. take n (drop (block_len * m) l)) size ∙ between_is l (block_len * m) (block_len * m + block_len) in
      part new ∙ ap (drop (block_len * m)) (take-put_mid_below (block_len * i) k bs ys (block_len * m + block_len) (omega arith) start) ∙ sym (part bs)

  put_other : (m : ℕ) → (m ≡ i → ⊥) → block_at new m ≡ block_at bs m
  put_other m n = by (cases_lt m i)
    where
      by : ((m < i) ⊎ (i ≤ m)) → block_at new m ≡ block_at bs m
      by (inl p) = put_before m p
      by (inr p) = ap (take block_len) (put_past (block_len * m) (omega (arith, n, p)))

  put_is : new ≡ take (block_len * i) bs ++ (ys ++ drop (block_len * i + block_len) bs)
  put_is = ap (λ l. take (block_len * i) bs ++ (ys ++ l)) (drop-drop k (block_len * i) bs ∙ ap (λ n. drop (block_len * i + n) bs) full)

-- an accepted write of register j, which has the index i
module _ {V : Type 0} (image_of : V → List ℕ) (of_image : List ℕ → Option V) (bs ys : List ℕ) (i j k : ℕ) (f : Fields V) (r : Record V) (e : Some r ≡ made f) (full : k ≡ block_len) (within : i < block_count (length bs)) (next : i + 1 ≡ j) (is : ys ≡ encoded image_of r) (sized : length ys ≡ block_len) (back : decoded of_image ys ≡ Some r) where
  abbrev new_bytes : List ℕ
  new_bytes = put_mid (block_len * i) k bs ys

  room : block_len * i + block_len ≤ length bs
  room = omega (arith, within)

  low : 1 ≤ j
  low = omega arith

  high : j ≤ block_count (length bs)
  high = omega arith

  inside : j ≤ length (block_cells of_image bs)
  inside = omega (arith, high, blocks_length of_image bs)

  index : j - 1 ≡ i
  index = omega arith

  pub stored_answer : Ok tt ≡ write_answer (block_cells of_image bs) j f
  stored_answer = sym (writes_answer (block_cells of_image bs) j low inside f ∙ ap made_answer (sym e))

  pub stored_bytes : new_bytes ≡ write_bytes image_of bs j f
  stored_bytes =
      put_is bs ys i k full sized room
      ∙ ap (λ l. take (block_len * i) bs ++ (l ++ drop (block_len * i + block_len) bs)) is
      ∙ ap (λ n. take (block_len * n) bs ++ (encoded image_of r ++ drop (block_len * n + block_len) bs)) (sym index)
      ∙ sym (cond-true _ _ _ (stands_true (block_count (length bs)) j low high) ∙ ap (made_bytes image_of bs j) (sym e))

  pub stored_after : block_cells of_image new_bytes ≡ write_cells (block_cells of_image bs) j f
  stored_after =
      blocks_set of_image bs new_bytes i (Some r) within (put_length bs ys i k full sized room) (put_other bs ys i k full sized room) (ap (decoded of_image) (put_here bs ys i k full sized room) ∙ back)
      ∙ ap (λ n. set (block_cells of_image bs) n (Some r)) (sym index)
      ∙ sym (writes_cells (block_cells of_image bs) j low inside f ∙ ap (made_cells (block_cells of_image bs) j) (sym e))

  pub stored_size : length (block_cells of_image new_bytes) ≡ length (block_cells of_image bs)
  stored_size = ap length stored_after ∙ write_length (block_cells of_image bs) j f

  pub stored_rest : rest_bytes new_bytes ≡ rest_bytes bs
  stored_rest = ap (λ n. drop (block_len * block_count n) new_bytes) (put_length bs ys i k full sized room) ∙ put_past bs ys i k full sized room (block_len * block_count (length bs)) (omega (arith, within))
