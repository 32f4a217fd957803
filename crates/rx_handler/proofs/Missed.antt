-- How many silence descriptors were missed since an anchor, and since when the level falls.
use Rattle.std.proofs.Common.{◌≡◌, refl, ap, ◌∙◌, ℕ, ◌+◌, ◌-◌, ◌<◌, ◌≤◌, min, zero, suc, true, false, if◌then◌else◌, List, [], ◌∷◌, ◌++◌, length, get_or, arith}
use Rattle.std.proofs.Common.{length-append, inl, inr}
use Rattle.std.specs.Prelude.{filter, nat_le, ◌==◌}
use Rattle.std.specs.List.{range_with_len}
use Rattle.std.proofs.lemmas.Bool.{cases_lt}
use Rattle.std.proofs.lemmas.List.{get_or_append_left}
use Rattle.std.proofs.lemmas.List.Elements.{filter-append}
use Rattle.std.proofs.Math.Seq.{get_or-append_seam}
use Rattle.std.proofs.lemmas.Grind.{common_steps}
use Rattle.rx_noise.specs.Noise.{silent_from_fall}
use Rattle.rx_handler.specs.Profile.{fall_from_missed}
use Rattle.rx_handler.specs.Heard.{Heard, Lost}
use Rattle.rx_handler.specs.Effective.{is_missed, missed_since}
use Rattle.rx_handler.specs.Past.{missed_in, periods_of_fall}

-- one number more at the end
range_more : (a n : ℕ) → range_with_len a (suc n) ≡ range_with_len a n ++ (a + n) ∷ []
range_more a zero = ap (λ x. x ∷ []) (let e : a ≡ a + 0 = omega arith in e)
range_more a (suc n) =
    ap (λ xs. a ∷ xs) (range_more (a + 1) n ∙ ap (λ x. range_with_len (a + 1) n ++ x ∷ []) (let e : a + 1 + n ≡ a + suc n = omega arith in e))

-- one more period after g
pub missed_since-more : (heard : ℕ → Heard) (g k : ℕ) → g ≤ k →
    missed_since heard g (suc k) ≡ missed_since heard g k ++ (if is_missed (heard (suc k)) then suc k ∷ [] else [])
unfolding missed_since
missed_since-more heard g k h =
    let longer : suc k - g ≡ suc (k - g) = omega arith in
    let last : g + 1 + (k - g) ≡ suc k = omega arith in
    ap (λ n. filter (λ i. is_missed (heard i)) (range_with_len (g + 1) n)) longer ∙
    ap (filter (λ i. is_missed (heard i))) (range_more (g + 1) (k - g)) ∙
    filter-append (λ i. is_missed (heard i)) (range_with_len (g + 1) (k - g)) ((g + 1 + (k - g)) ∷ []) ∙
    ap (λ x. filter (λ i. is_missed (heard i)) (range_with_len (g + 1) (k - g)) ++ (if is_missed (heard x) then x ∷ [] else [])) last

-- `missed` are the numbers of the missed descriptors among the periods since an anchor, of which k is the last: the
-- fall begins with one of them
pub record Counted (k : ℕ) (since : List Heard) (missed : List ℕ) : Type 0 where
  pub count : missed_in since ≡ length missed
  pub before : length missed < fall_from_missed → periods_of_fall since ≡ 0
  pub from : fall_from_missed ≤ length missed →
      (periods_of_fall since ≡ k - get_or missed (fall_from_missed - 1) 0 + 1) × (get_or missed (fall_from_missed - 1) 0 ≤ k)

-- whether the fall has begun
begun : (n : ℕ) → fall_from_missed ≤ n → ◌≡◌ {A = ℕ} (if nat_le fall_from_missed n then 1 else 0) 1
begun n h = let e : nat_le fall_from_missed n ≡ true = grind arith in rw e

not_begun : (n : ℕ) → n < fall_from_missed → ◌≡◌ {A = ℕ} (if nat_le fall_from_missed n then 1 else 0) 0
not_begun n h = let e : nat_le fall_from_missed n ≡ false = grind arith in rw e

-- at the anchor itself
pub counted_none : (k : ℕ) → Counted k [] []
unfolding periods_of_fall
counted_none k = record { count = refl; before = λ h. refl; from = λ h. absurd (omega arith) }

-- one more period in which a descriptor was missed
pub counted_missed : (k : ℕ) (since : List Heard) (missed : List ℕ) → Counted k since missed →
    Counted (suc k) (Lost true ∷ since) (missed ++ suc k ∷ [])
unfolding periods_of_fall
counted_missed k since missed s =
    let count = s.count in
    let long = length-append missed (suc k ∷ []) in
    record {
      count = omega arith;
      before = λ h.
          let fall = s.before (omega arith) in
          let off = not_begun (suc (missed_in since)) (omega arith) in
          omega arith;
      from = λ h.
          let on = begun (suc (missed_in since)) (omega arith) in
          elim (cases_lt (length missed) fall_from_missed) [
            | inl first ↦
                let fall = s.before first in
                let place : fall_from_missed - 1 ≡ length missed = omega arith in
                let here : get_or (missed ++ suc k ∷ []) (fall_from_missed - 1) 0 ≡ suc k =
                ap (λ i. get_or (missed ++ suc k ∷ []) i 0) place ∙ get_or-append_seam missed (suc k) [] 0 in
                (omega arith, omega arith)
            | inr later ↦
                let fall = s.from later in
                let periods = fall.0 in
                let past = fall.1 in
                let same = get_or_append_left missed (suc k ∷ []) 0 (fall_from_missed - 1) (omega arith) in
                (omega arith, omega arith)
          ];
    }

-- one more in which none was
pub counted_other : (k : ℕ) (since : List Heard) (missed : List ℕ) → Counted k since missed → Counted (suc k) (Lost false ∷ since) missed
unfolding periods_of_fall
counted_other k since missed s =
    let count = s.count in
    record {
      count = count;
      before = λ h.
          let fall = s.before h in
          let off = not_begun (missed_in since) (omega arith) in
          omega arith;
      from = λ h.
          let fall = s.from h in
          let periods = fall.0 in
          let past = fall.1 in
          let on = begun (missed_in since) (omega arith) in
          (omega arith, omega arith);
    }

-- a fall that has begun has begun as it is counted
pub begun_same : (fall : ℕ) → (min fall silent_from_fall == 0) ≡ (fall == 0)
begun_same fall = grind (arith, common_steps)
