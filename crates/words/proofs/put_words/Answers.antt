use Rattle.std.proofs.Common.{◌≡◌, ℕ, zero, suc, ◌+◌, ◌*◌, ◌<◌, List, [], ◌∷◌, ◌++◌, length, get_or, take, refl, ap, add-one, length-take, arith}
use Rattle.memory.specs.Lists.{write, write_append}
use Rattle.memory.specs.Words.{bytes4, words_bytes, length_words}
use Rattle.words.proofs.put_words.Goals as goal

-- Word after word.

-- one word more
words_more : (ws : List ℕ) (i : ℕ) → i < length ws → words_bytes (take i ws) ++ bytes4 (get_or ws i 0) ≡ words_bytes (take (suc i) ws)
unfolding words_bytes
words_more [] i h = absurd (omega arith)
words_more (w ∷ ws) zero h = refl
words_more (w ∷ ws) (suc i) h = ap (λ (l : List ℕ). bytes4 w ++ l) (words_more ws i (omega arith))

one_more : (l : List ℕ) (at i : ℕ) (ws : List ℕ) → i < length ws
    → write (write l at (words_bytes (take i ws))) (at + i * 4) (bytes4 (get_or ws i 0)) ≡ write l at (words_bytes (take (i + 1) ws))
one_more l at i ws h =
    let n : at + i * 4 ≡ at + length (words_bytes (take i ws)) = omega (arith, length_words (take i ws), length-take i ws) in
    rw (n, write_append l at (words_bytes (take i ws)) (bytes4 (get_or ws i 0)), words_more ws i h, add-one)

none_put : (l : List ℕ) (at : ℕ) → l ≡ write l at []
unfolding write
none_put [] at = refl
none_put (x ∷ l) zero = refl
none_put (x ∷ l) (suc at) = ap (λ (r : List ℕ). x ∷ r) (none_put l at)

pub loop-i-init : goal.loop-i-init
unfolding words_bytes
loop-i-init c = none_put c.args.s.now c.args.at

pub loop-i-preserved : goal.loop-i-preserved
loop-i-preserved c =
    let x = c.args in
    let e = one_more x.s.now x.at c.loop-i.i x.ws.now c.loop-i-test.true in
    cc
