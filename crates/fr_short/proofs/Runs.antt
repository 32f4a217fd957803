-- A loop that passes a list of samples through the sections.
use Rattle.std.proofs.Common.{◌≡◌, ℕ, ℤ, ◌+◌, ◌<◌, ◌≤◌, pos, get_or, set, length, take, drop, List, [], ◌∷◌, ◌++◌, refl, sym, ap, ◌∙◌, arith, drop-cons}
use Rattle.std.proofs.Common.{append_assoc, add-one}
use Rattle.std.proofs.lemmas.List.{length-set, drop_all, take_all, append-nil}
use Rattle.std.proofs.lemmas.Grind.{take-set_at}
use Rattle.trau_num.specs.Num.{add_of, mult_r_of}
use Rattle.fr_short.specs.Deemphasis.{deemphasised, last_of}
use Rattle.fr_short.specs.Stepped.{stepped_through}
use Rattle.fr_short.specs.Synthesis.{synthesis_lattice, sections_after, filtered_samples}

-- one sample y of the definition, with the coefficients r
one : (rs : ℕ → List ℤ) (k : ℕ) (vs d r : List ℤ) (y x : ℤ) (vs' : List ℤ) → k < length d → r ≡ rs k → y ≡ get_or d k (pos 0) →
    x ≡ (synthesis_lattice r vs y).0 → vs' ≡ sections_after (synthesis_lattice r vs y) →
    filtered_samples rs k vs (drop k d) ≡ (x ∷ (filtered_samples rs (k + 1) vs' (drop (k + 1) d)).0, (filtered_samples rs (k + 1) vs' (drop (k + 1) d)).1)
unfolding filtered_samples
one rs k vs d r y x vs' h er ey ex ev = let e = drop-cons d k (pos 0) h in rw (ex, ev, er, ey, e, add-one) refl

-- what is made of samples as they are, and by de-emphasis
pub stepped_plain : (before : ℤ) (xs : List ℤ) → stepped_through (λ sample last. sample) before xs ≡ xs
stepped_plain before [] = refl
stepped_plain before (x ∷ xs) = ap (λ l. x ∷ l) (stepped_plain x xs)

pub stepped_deemphasis : (before : ℤ) (xs : List ℤ) →
    stepped_through (λ sample last. add_of sample (mult_r_of (pos 28180) last)) before xs ≡ deemphasised before xs
stepped_deemphasis before [] = refl
stepped_deemphasis before (x ∷ xs) = ap (λ l. add_of x (mult_r_of (pos 28180) before) ∷ l) (stepped_deemphasis (add_of x (mult_r_of (pos 28180) before)) xs)

-- k samples are done, of which the last was made so, and what is left gives the rest
pub record Run (f : ℤ → ℤ → ℤ) (rs : ℕ → List ℤ) (start d : List ℤ) (before : ℤ) (vs : List ℤ) (last : ℤ) (s : List ℤ) (k : ℕ) : Type 0 where
  pub count : length s ≡ length d
  pub samples : take k s ++ stepped_through f last (filtered_samples rs k vs (drop k d)).0 ≡ stepped_through f before (filtered_samples rs 0 start d).0
  pub newest : last_of last (stepped_through f last (filtered_samples rs k vs (drop k d)).0)
      ≡ last_of before (stepped_through f before (filtered_samples rs 0 start d).0)
  pub state : (filtered_samples rs k vs (drop k d)).1 ≡ (filtered_samples rs 0 start d).1

-- no sample made yet, one more, and all
pub run_start : (f : ℤ → ℤ → ℤ) (rs : ℕ → List ℤ) (start d : List ℤ) (before : ℤ) (s : List ℤ) → length s ≡ length d → Run f rs start d before start before s 0
run_start f rs start d before s l = record { count = l; samples = refl; newest = refl; state = refl }

pub run_next : (f : ℤ → ℤ → ℤ) (rs : ℕ → List ℤ) (start d : List ℤ) (before : ℤ) (vs : List ℤ) (last : ℤ) (s r : List ℤ) (k : ℕ) (y x m : ℤ) (vs' : List ℤ) →
    k < length d →
    Run f rs start d before vs last s k → r ≡ rs k → y ≡ get_or d k (pos 0) → x ≡ (synthesis_lattice r vs y).0 →
    vs' ≡ sections_after (synthesis_lattice r vs y) →
    m ≡ f x last → Run f rs start d before vs' m (set s k m) (k + 1)
run_next f rs start d before vs last s r k y x m vs' h run er ey ex ev em =
    let o = one rs k vs d r y x vs' h er ey ex ev in
    let rest : List ℤ = (filtered_samples rs (k + 1) vs' (drop (k + 1) d)).0 in
    let e : stepped_through f last (filtered_samples rs k vs (drop k d)).0 ≡ m ∷ stepped_through f m rest =
    ap (λ z. stepped_through f last z.0) o ∙ ap (λ n. n ∷ stepped_through f n rest) (sym em) in
    let count = run.count in
    let t : take (k + 1) (set s k m) ≡ take k s ++ m ∷ [] = take-set_at s k (k + 1) m refl (omega arith) in
    record {
      count = length-set s k m ∙ count;
      samples = rw (t, append_assoc) (rw e at run.samples);
      newest = rw e at run.newest;
      state = rw o at run.state;
    }

pub run_end : (f : ℤ → ℤ → ℤ) (rs : ℕ → List ℤ) (start d : List ℤ) (before : ℤ) (vs : List ℤ) (last : ℤ) (s : List ℤ) (k : ℕ) → length d ≤ k →
    Run f rs start d before vs last s k →
    (s ≡ stepped_through f before (filtered_samples rs 0 start d).0) × (last ≡ last_of before (stepped_through f before (filtered_samples rs 0 start d).0)) ×
    (vs ≡ (filtered_samples rs 0 start d).1)
unfolding filtered_samples
run_end f rs start d before vs last s k h r =
    let count = r.count in
    let e : drop k d ≡ [] = drop_all k d h in
    let t : take k s ≡ s = take_all k s (omega arith) in
    (rw (t, e, append-nil) at r.samples, rw e at r.newest, rw e at r.state)
