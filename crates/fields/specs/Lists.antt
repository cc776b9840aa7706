-- Lists that grow by elements or by parts until they are a table.
use Rattle.std.specs.Prelude.{◌≡◌, List, ◌++◌, ℕ, ◌+◌, ◌-◌, ◌≤◌, ◌<◌, length, get_or, take, drop, replicate}
use Rattle.std.proofs.Common.{ap, ◌∙◌, arith, length-take, length-drop, get_or-take, get_or-drop}
use Rattle.std.proofs.lemmas.List.{length-replicate, get_or-replicate}
use Rattle.memory.specs.Lists.{tabulate, is_tabulate, length_tabulate, get_d_tabulate, Done, length_write, get_d_write_before, get_d_write_in, part_back}
use Rattle.memory.specs.Cases.{lt?, either}

pub done_all : (f : ℕ → ℕ) (l : List ℕ) (n i : ℕ) → length l ≡ n → n ≤ i → Done f l i → l ≡ tabulate n f
done_all f l n i e h D = is_tabulate l n f e (λ k p. D k (omega arith))

-- what is taken is no longer than that
pub take_lt : (l : List ℕ) (n i : ℕ) → i < length (take n l) → i < n
take_lt l n i h = omega (arith, length-take n l)

-- element j of the part of m elements from `at` on
pub part_at : (l : List ℕ) (at m j : ℕ) → j < m → get_or (take (at + m - at) (drop at l)) j 0 ≡ get_or l (at + j) 0
part_at l at m j h =
    let e : at + m - at ≡ m = omega arith in
    rw (e, get_or-take, get_or-drop)

-- the part from element i to element e was lent and came back as ys
module _ (l ys : List ℕ) (i e : ℕ) (order : i ≤ e) (h : e ≤ length l) (size : length ys ≡ e - i) where
  pub part_length : length (take i l ++ (ys ++ drop (e - i) (drop i l))) ≡ length l
  part_length = rw (part_back l i e ys order h size) (length_write l i ys)

  pub part_more : (f : ℕ → ℕ) → Done f l i → ((j : ℕ) → j < e - i → get_or ys j 0 ≡ f (i + j))
      → Done f (take i l ++ (ys ++ drop (e - i) (drop i l))) e
  part_more f D P k p =
      rw (part_back l i e ys order h size)
      (either (lt? k i)
      (λ a. get_d_write_before l i ys k 0 a.1 ∙ D k a.1)
      (λ a.
      let q : i + (k - i) ≡ k = omega arith in
      get_d_write_in l i ys k 0 a.1 (omega arith) (omega arith) ∙ P (k - i) (omega arith) ∙ ap f q))

-- the same, come back as a table
module _ (l ys : List ℕ) (i e : ℕ) (g : ℕ → ℕ) (order : i ≤ e) (h : e ≤ length l) (is : ys ≡ tabulate (length (take (e - i) (drop i l))) g) where
  size : length (take (e - i) (drop i l)) ≡ e - i
  size = simp (length-take, length-drop) (omega arith)

  table : ys ≡ tabulate (e - i) g
  table = is ∙ ap (λ (n : ℕ). tabulate n g) size

  pub table_length : length (take i l ++ (ys ++ drop (e - i) (drop i l))) ≡ length l
  table_length = part_length l ys i e order h (ap length table ∙ length_tabulate (e - i) g)

  pub table_more : (f : ℕ → ℕ) → Done f l i → ((j : ℕ) → j < e - i → g j ≡ f (i + j))
      → Done f (take i l ++ (ys ++ drop (e - i) (drop i l))) e
  table_more f D P =
      part_more l ys i e order h (ap length table ∙ length_tabulate (e - i) g) f D
      (λ j b. ap (λ (v : List ℕ). get_or v j 0) table ∙ get_d_tabulate (e - i) g j 0 b ∙ P j b)

pub zeros : (n : ℕ) → replicate {A = ℕ} n 0 ≡ tabulate n (λ i. 0)
zeros n = is_tabulate (replicate {A = ℕ} n 0) n (λ i. 0) (length-replicate {A = ℕ} n 0) (λ i h. get_or-replicate n i 0 0 h)
