-- Values that make the same number are the same.
use Rattle.std.proofs.Common.{◌≡◌, ℕ, ◌+◌, ◌*◌, ◌/◌, ◌^◌, ◌<◌, zero, suc, List, [], ◌∷◌, length, get_or, sym, ap, subst, ◌∙◌, arith}
use Rattle.std.proofs.lemmas.Nat.{div-mul-add}
use Rattle.gsm_frame.specs.Packed.{packed_from}

-- the last digit of a number, and the number of the others
same_digit : (n m size v u : ℕ) → v < size → u < size → n * size + v ≡ m * size + u → (n ≡ m) × (v ≡ u)
same_digit n m size v u h g e =
    let q : n ≡ m = sym (div-mul-add n size v h) ∙ ap (λ x. x / size) e ∙ div-mul-add m size u g in
    let s : n * size + v ≡ n * size + u = e ∙ ap (λ k. k * size + u) (sym q) in
    (q, omega arith)

-- a first value and those after it
from_first : (v u : ℕ → ℕ) (i n : ℕ) → v i ≡ u i → ((k : ℕ) → k < n → v (k + suc i) ≡ u (k + suc i)) →
    (k : ℕ) → k < suc n → v (k + i) ≡ u (k + i)
from_first v u i n h t zero l = let e : i ≡ zero + i = omega arith in subst (λ m. v m ≡ u m) e h
from_first v u i n h t (suc k) l =
    let e : k + suc i ≡ suc k + i = omega arith in
    subst (λ m. v m ≡ u m) e (t k (omega arith))

-- values fit their widths from value i on
abbrev pub Fit : List ℕ → ℕ → (ℕ → ℕ) → Type 0
Fit widths i v = (k : ℕ) → k < length widths → v (k + i) < 2 ^ get_or widths k 0

fit_first : (w : ℕ) (ws : List ℕ) (i : ℕ) (v : ℕ → ℕ) → Fit (w ∷ ws) i v → v i < 2 ^ w
fit_first w ws i v h =
    let e : zero + i ≡ i = omega arith in
    subst (λ m. v m < 2 ^ w) e (h zero (omega arith))

fit_rest : (w : ℕ) (ws : List ℕ) (i : ℕ) (v : ℕ → ℕ) → Fit (w ∷ ws) i v → Fit ws (suc i) v
fit_rest w ws i v h k l =
    let e : suc k + i ≡ k + suc i = omega arith in
    subst (λ m. v m < 2 ^ get_or ws k 0) e (h (suc k) (omega arith))

pub same_values : (widths : List ℕ) (i n m : ℕ) (v u : ℕ → ℕ) → Fit widths i v → Fit widths i u →
    packed_from i n widths v ≡ packed_from i m widths u → (n ≡ m) × ((k : ℕ) → k < length widths → v (k + i) ≡ u (k + i))
unfolding packed_from
same_values [] i n m v u h g e = (e, λ k l. absurd (omega arith))
same_values (w ∷ ws) i n m v u h g e =
    let rest = same_values ws (suc i) (n * 2 ^ w + v i) (m * 2 ^ w + u i) v u (fit_rest w ws i v h) (fit_rest w ws i u g) e in
    let here = same_digit n m (2 ^ w) (v i) (u i) (fit_first w ws i v h) (fit_first w ws i u g) rest.0 in
    (here.0, from_first v u i (length ws) here.1 rest.1)

-- and so from the first value on
pub same_from_first : (widths : List ℕ) (n : ℕ) (v u : ℕ → ℕ) → Fit widths 0 v → Fit widths 0 u →
    packed_from 0 n widths v ≡ packed_from 0 n widths u → (k : ℕ) → k < length widths → v k ≡ u k
same_from_first widths n v u h g e k l =
    let z : k + 0 ≡ k = omega arith in
    subst (λ m. v m ≡ u m) z ((same_values widths 0 n n v u h g e).1 k l)
