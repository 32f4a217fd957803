-- Sample by sample through all sections, or section by section through all samples, is one.
use Rattle.std.proofs.Common.{◌≡◌, ℕ, ℤ, ◌+◌, ◌<◌, ◌≤◌, zero, suc, pos, get_or, set, length, take, drop, List, [], ◌∷◌, ◌++◌, refl, sym, ap, ◌∙◌, arith}
use Rattle.std.proofs.Common.{drop-cons, append_assoc, add-one}
use Rattle.std.proofs.lemmas.List.{length-set, drop-set-lt, drop_all, take_all, append-nil}
use Rattle.std.proofs.lemmas.Grind.{take-set_at}
use Rattle.trau_num.specs.Num.{add_of, mult_r_of}
use Rattle.fr_short.specs.Analysis.{analysis_lattice, analysed_samples}
use Rattle.fr_short.specs.AnalysisSection.{u_at, next_d, next_sav}

-- the sections from i on, over n samples from place k on, with d and sav of each sample before them
pub beyond : (ℕ → List ℤ) → ℕ → ℕ → ℕ → List ℤ → (ℕ → ℤ) → (ℕ → ℤ) → List ℤ × List ℤ
beyond rs i zero k us ds savs = ([], us)
beyond rs i (suc n) k us ds savs =
    let x = analysis_lattice (drop i (rs k)) us (ds k) (savs k) in
    let rest = beyond rs i n (k + 1) x.1 ds savs in
    (x.0 ∷ rest.0, rest.1)

-- at first d and sav are the sample
pub beyond_none : (rs : ℕ → List ℤ) (n k : ℕ) (us s : List ℤ) → length s ≡ k + n →
    analysed_samples rs k us (drop k s) ≡ beyond rs 0 n k us (λ j. get_or s j (pos 0)) (λ j. get_or s j (pos 0))
unfolding analysed_samples beyond
beyond_none rs zero k us s l = let e : drop k s ≡ [] = drop_all k s (omega arith) in rw e refl
beyond_none rs (suc n) k us s l =
    let y = get_or s k (pos 0) in
    let k1 : k + 1 ≡ suc k = omega arith in
    let e : drop k s ≡ y ∷ drop (k + 1) s = rw k1 (drop-cons s k (pos 0) (omega arith)) in
    let h = beyond_none rs n (k + 1) (analysis_lattice (rs k) us y y).1 s (omega arith) in
    rw (e, h) refl

-- at last d is the residual
pub beyond_all : (rs : ℕ → List ℤ) (i : ℕ) → ((j : ℕ) → drop i (rs j) ≡ []) → (n k : ℕ) (d : List ℤ) (savs : ℕ → ℤ) → length d ≡ k + n →
    beyond rs i n k [] (λ j. get_or d j (pos 0)) savs ≡ (drop k d, [])
unfolding beyond
beyond_all rs i none zero k d savs l = let e : drop k d ≡ [] = drop_all k d (omega arith) in rw e refl
beyond_all rs i none (suc n) k d savs l =
    let k1 : k + 1 ≡ suc k = omega arith in
    let e : drop k d ≡ get_or d k (pos 0) ∷ drop (k + 1) d = rw k1 (drop-cons d k (pos 0) (omega arith)) in
    let h = beyond_all rs i none n (k + 1) d savs (omega arith) in
    rw (e, none k, h) refl

-- one section goes over its samples first: u at each sample, and d and sav after it
pub beyond_one : (rs : ℕ → List ℤ) (i : ℕ) (u ds savs ds' savs' : ℕ → ℤ) →
    ((j : ℕ) → i < length (rs j)) →
    ((j : ℕ) → u (j + 1) ≡ savs j) →
    ((j : ℕ) → j < 160 → ds' j ≡ add_of (ds j) (mult_r_of (get_or (rs j) i (pos 0)) (u j))) →
    ((j : ℕ) → j < 160 → savs' j ≡ add_of (u j) (mult_r_of (get_or (rs j) i (pos 0)) (ds j))) →
    (n k : ℕ) (us : List ℤ) → k + n ≡ 160 →
    beyond rs i n k (u k ∷ us) ds savs ≡ ((beyond rs (i + 1) n k us ds' savs').0, u 160 ∷ (beyond rs (i + 1) n k us ds' savs').1)
unfolding beyond
beyond_one rs i u ds savs ds' savs' long next d sav zero k us l = let e : k ≡ 160 = omega arith in rw e refl
beyond_one rs i u ds savs ds' savs' long next d sav (suc n) k us l =
    let i1 : i + 1 ≡ suc i = omega arith in
    let e : drop i (rs k) ≡ get_or (rs k) i (pos 0) ∷ drop (i + 1) (rs k) = rw i1 (drop-cons (rs k) i (pos 0) (long k)) in
    let x = analysis_lattice (drop (i + 1) (rs k)) us (ds' k) (savs' k) in
    let o : analysis_lattice (drop i (rs k)) (u k ∷ us) (ds k) (savs k) ≡ (x.0, u (k + 1) ∷ x.1) =
    rw (e, d k (omega arith), sav k (omega arith), next k) refl in
    let h = beyond_one rs i u ds savs ds' savs' long next d sav n (k + 1) x.1 (omega arith) in
    rw (o, h) refl

-- the first i sections are done
pub record Sectioned (rs : ℕ → List ℤ) (us0 s us ds savs : List ℤ) (i : ℕ) : Type 0 where
  pub us_count : length us ≡ 8
  pub ds_count : length ds ≡ 160
  pub savs_count : length savs ≡ 160
  pub out : (beyond rs i 160 0 (drop i us) (λ j. get_or ds j (pos 0)) (λ j. get_or savs j (pos 0))).0 ≡ (analysed_samples rs 0 us0 s).0
  pub kept : take i us ++ (beyond rs i 160 0 (drop i us) (λ j. get_or ds j (pos 0)) (λ j. get_or savs j (pos 0))).1 ≡ (analysed_samples rs 0 us0 s).1

-- no section is passed yet
pub sectioned_none : (rs : ℕ → List ℤ) (us s : List ℤ) → length us ≡ 8 → length s ≡ 160 → Sectioned rs us s us s s 0
sectioned_none rs us s lu ls =
    let e : analysed_samples rs 0 us s ≡ beyond rs 0 160 0 us (λ j. get_or s j (pos 0)) (λ j. get_or s j (pos 0)) = beyond_none rs 160 0 us s ls in
    record { us_count = lu; ds_count = ls; savs_count = ls; out = ap (λ x. x.0) (sym e); kept = ap (λ x. x.1) (sym e) }

-- one section more
pub sectioned_next : (rs : ℕ → List ℤ) (rs_i : ℕ → ℤ) (us0 s us ds savs ds' savs' : List ℤ) (i : ℕ) (u last : ℤ) → i < 8 → ((j : ℕ) → length (rs j) ≡ 8) →
    length ds' ≡ 160 → length savs' ≡ 160 → Sectioned rs us0 s us ds savs i → u ≡ get_or us i (pos 0) →
    ((j : ℕ) → j < 160 → rs_i j ≡ get_or (rs j) i (pos 0)) →
    ((j : ℕ) → j < 160 → get_or ds' j (pos 0) ≡ next_d rs_i u ds savs j) →
    ((j : ℕ) → j < 160 → get_or savs' j (pos 0) ≡ next_sav rs_i u ds savs j) →
    last ≡ u_at u savs 160 → Sectioned rs us0 s (set us i last) ds' savs' (i + 1)
sectioned_next rs rs_i us0 s us ds savs ds' savs' i u last l long ld ls h eu er ed es el =
    let us_count = h.us_count in
    let i1 : i + 1 ≡ suc i = omega arith in
    let e : drop i us ≡ u ∷ drop (i + 1) us = rw (i1, eu) (drop-cons us i (pos 0) (omega arith)) in
    let one = beyond_one rs i (u_at u savs) (λ j. get_or ds j (pos 0)) (λ j. get_or savs j (pos 0)) (λ j. get_or ds' j (pos 0)) (λ j. get_or savs' j (pos 0))
    (λ j. omega (arith, long j)) (λ j. rw add-one refl) (λ j b. rw (← er j b) (ed j b)) (λ j b. rw (← er j b) (es j b)) 160 0 (drop (i + 1) us) refl in
    let t : take (i + 1) (set us i last) ≡ take i us ++ last ∷ [] = take-set_at us i (i + 1) last refl (omega arith) in
    let d : drop (i + 1) (set us i last) ≡ drop (i + 1) us = drop-set-lt (i + 1) us i last (omega arith) in
    record {
      us_count = length-set us i last ∙ us_count;
      ds_count = ld;
      savs_count = ls;
      out = rw d (rw (e, one) at h.out);
      kept = rw (t, d, append_assoc, el) (rw (e, one) at h.kept);
    }

-- all eight are the lattice
pub sectioned_all : (rs : ℕ → List ℤ) (us0 s us ds savs : List ℤ) (i : ℕ) → 8 ≤ i → ((j : ℕ) → length (rs j) ≡ 8) → Sectioned rs us0 s us ds savs i →
    (ds ≡ (analysed_samples rs 0 us0 s).0) × (us ≡ (analysed_samples rs 0 us0 s).1)
sectioned_all rs us0 s us ds savs i l long h =
    let us_count = h.us_count in
    let e : drop i us ≡ [] = drop_all i us (omega arith) in
    let t : take i us ≡ us = take_all i us (omega arith) in
    let all = beyond_all rs i (λ j. drop_all i (rs j) (omega (arith, long j))) 160 0 ds (λ j. get_or savs j (pos 0)) h.ds_count in
    (rw (e, all) at h.out, rw (e, all, t, append-nil) at h.kept)
