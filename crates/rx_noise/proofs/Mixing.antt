-- For crates above: fields that are mixed with themselves don't change (`mix_of-one`).
-- Codes that are mixed, place by place.
use Rattle.std.proofs.Common.{◌≡◌, ℕ, ◌+◌, ◌-◌, ◌*◌, ◌<◌, ◌≤◌, ◌∙◌, refl, sym, ap, get_or, length, map, List, [], ◌∷◌, mul-add, arith}
use Rattle.std.specs.Prelude.{zip}
use Rattle.std.specs.List.{range_with_len}
use Rattle.std.proofs.Math.Nat.{mul-le-mul}
use Rattle.std.proofs.lemmas.List.{get_or-map, length-map}
use Rattle.std.proofs.lemmas.List.FromFn.{fill_by_all}
use Rattle.std.proofs.lemmas.Slice.Zip.{get_or-zip, length-zip}
use Rattle.trau_params.specs.Fields.{Fields}
use Rattle.rx_noise.specs.Mix.{approach_steps, mixture, mixtures, mix_of}

-- the parts of all steps are the whole
parts_of_all : (i x : ℕ) → i ≤ approach_steps → x * (approach_steps - i) + x * i ≡ x * approach_steps
parts_of_all i x h =
    sym (mul-add x (approach_steps - i) i) ∙ ap (λ n. x * n) (let e : approach_steps - i + i ≡ approach_steps = omega arith in e)

-- a mean of codes below n is below n
pub mixture-below : (i old new n : ℕ) → i ≤ approach_steps → old < n → new < n → mixture i old new < n
mixture-below i old new n h a b =
    let first : old * (approach_steps - i) ≤ (n - 1) * (approach_steps - i) = mul-le-mul (omega arith) (omega arith) in
    let second : new * i ≤ (n - 1) * i = mul-le-mul (omega arith) (omega arith) in
    let all = parts_of_all i (n - 1) h in
    omega arith

-- of two that are the same
pub mixture-one : (i x : ℕ) → i ≤ approach_steps → mixture i x x ≡ x
mixture-one i x h =
    let all = parts_of_all i x h in
    omega arith

mixtures-one : (i : ℕ) (xs : List ℕ) → i ≤ approach_steps → mixtures i xs xs ≡ xs
mixtures-one i [] h = refl
mixtures-one i (x ∷ xs) h = ap (λ y. y ∷ mixtures i xs xs) (mixture-one i x h) ∙ ap (λ ys. x ∷ ys) (mixtures-one i xs h)

pub mix_of-one : (q : Fields) (i : ℕ) → i ≤ approach_steps → mix_of q q i ≡ q
unfolding mix_of
mix_of-one q i h = let l = mixtures-one i q.larc h in let x = mixtures-one i q.xmaxc h in rw (l, x) refl

-- at the last step the new ones are there
mixtures-end : (old new : List ℕ) → length old ≡ length new → mixtures approach_steps old new ≡ new
mixtures-end [] [] e = refl
mixtures-end [] (y ∷ ys) e = absurd (omega arith)
mixtures-end (x ∷ xs) [] e = absurd (omega arith)
mixtures-end (x ∷ xs) (y ∷ ys) e =
    let here : mixture approach_steps x y ≡ y = omega arith in
    ap (λ z. z ∷ mixtures approach_steps xs ys) here ∙ ap (λ zs. y ∷ zs) (mixtures-end xs ys (omega arith))

pub mix_of-end : (old new : Fields) → length old.larc ≡ length new.larc → length old.xmaxc ≡ length new.xmaxc → mix_of old new approach_steps ≡ new
unfolding mix_of
mix_of-end old new e f = let l = mixtures-end old.larc new.larc e in let x = mixtures-end old.xmaxc new.xmaxc f in rw (l, x) refl

pub mixtures_by_places : (i : ℕ) (old new : List ℕ) (n : ℕ) → length old ≡ n → length new ≡ n →
    mixtures i old new ≡ map (λ j. mixture i (get_or old j 0) (get_or new j 0)) (range_with_len 0 n)
mixtures_by_places i old new n e f =
    let long = length-zip old new in
    let count = length-map (zip old new) (λ codes. mixture i codes.0 codes.1) in
    fill_by_all (λ j. mixture i (get_or old j 0) (get_or new j 0)) (mixtures i old new) n 0 (omega arith)
    (λ k h. get_or-map (λ codes. mixture i codes.0 codes.1) (zip old new) k (0, 0) 0 (omega arith)
    ∙ ap (λ codes. mixture i codes.0 codes.1) (get_or-zip old new k (0, 0) (omega arith) (omega arith)))
