-- What a history says of a period: what was handed over in it.
use Rattle.std.proofs.Common.{◌≡◌, refl, ◌∙◌, ℕ, ◌<◌, ◌≤◌, Bool, true, false, if◌then◌else◌, Option, None, List, [], ◌∷◌, ◌++◌, length, arith}
use Rattle.std.proofs.Common.{length-append}
use Rattle.std.specs.Prelude.{◌==◌, unwrap_or}
use Rattle.std.proofs.lemmas.Bool.{eq-eqb, ne_eqb, cond-true, cond-false}
use Rattle.call_leg.specs.Periods.{CallPeriod, handed_in}

abbrev pub handed_at : List CallPeriod → ℕ → Option (List ℕ)
handed_at [] k = None
handed_at (t ∷ past) k = if k == length past then t.handed else handed_at past k

pub handed_at-past : (ts : List CallPeriod) (k : ℕ) → length ts ≤ k → handed_at ts k ≡ None
handed_at-past [] k l = refl
handed_at-past (t ∷ past) k l =
    cond-false (k == length past) t.handed (handed_at past k) (ne_eqb k (length past) (omega arith)) ∙ handed_at-past past k (omega arith)

pub handed_at-now : (t : CallPeriod) (past : List CallPeriod) (k : ℕ) → k ≡ length past → handed_at (t ∷ past) k ≡ t.handed
handed_at-now t past k e = cond-true (k == length past) t.handed (handed_at past k) (eq-eqb k (length past) e)

pub handed_at-old : (t : CallPeriod) (past : List CallPeriod) (k : ℕ) → k < length past → handed_at (t ∷ past) k ≡ handed_at past k
handed_at-old t past k l = cond-false (k == length past) t.handed (handed_at past k) (ne_eqb k (length past) (omega arith))

pub handed_at-period : (later : List CallPeriod) (t : CallPeriod) (past : List CallPeriod) → handed_at (later ++ t ∷ past) (length past) ≡ t.handed
handed_at-period [] t past = handed_at-now t past (length past) refl
handed_at-period (u ∷ later) t past =
    let n = length-append later (t ∷ past) in handed_at-old u (later ++ t ∷ past) (length past) (omega arith) ∙ handed_at-period later t past

-- what was handed over in a period so far
pub handed_in-at : (ts : List CallPeriod) (h : ℕ) → handed_in h ts ≡ unwrap_or (handed_at ts h) []
handed_in-at [] h = refl
handed_in-at (t ∷ past) h = by (h == length past) (handed_in-at past h)
  where
    by : (b : Bool) → handed_in h past ≡ unwrap_or (handed_at past h) [] →
        (if b then unwrap_or t.handed [] else handed_in h past) ≡ unwrap_or (if b then t.handed else handed_at past h) []
    by true e = refl
    by false e = e

pub handed_at-later : (later ts : List CallPeriod) (h : ℕ) → h < length ts → handed_at (later ++ ts) h ≡ handed_at ts h
handed_at-later [] ts h l = refl
handed_at-later (u ∷ later) ts h l = let n = length-append later ts in handed_at-old u (later ++ ts) h (omega arith) ∙ handed_at-later later ts h l
