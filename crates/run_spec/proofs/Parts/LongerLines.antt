-- For crates above: how many octets a call has on Down, and that more periods only append to its outgoing lines
-- (`down_on`, `out_more`).
use Rattle.std.proofs.Common.{◌≡◌, refl, sym, ap, ◌∙◌, ℕ, zero, suc, ◌+◌, ◌*◌, List, [], ◌∷◌, ◌++◌, length, arith, append_assoc, append-nil}
use Rattle.trau_bits.specs.Bits.{octets_of}
use Rattle.trau_bits.proofs.Appended.{length-whole_octets, octets_of-append}
use Rattle.call_leg.specs.Who.{Who}
use Rattle.call_leg.specs.Periods.{CallPeriod}
use Rattle.call_leg.specs.Down.{down_now, down_line}
use Rattle.call_leg.proofs.LineLaws.{length-down_line}
use Rattle.run_spec.specs.Run.{Run, periods_to, who_in}
use Rattle.call_leg.specs.Out.{out_of, out_line}
use Rattle.run_spec.specs.Lines.{down_octets}

-- ---- lengths

pub length-periods_to : (r : Run) (c n : ℕ) → length (periods_to r c n) ≡ n
length-periods_to r c zero = refl
length-periods_to r c (suc n) = ap suc (length-periods_to r c n)

pub length-down_octets : (who : Who) (ts : List CallPeriod) → length (down_octets who ts) ≡ 40 * length ts
length-down_octets who ts = omega (arith, length-whole_octets (down_line who ts), length-down_line who ts)

-- one period more of the Down line is its octets more
pub down_more : (who : Who) (t : CallPeriod) (past : List CallPeriod) →
    down_octets who (t ∷ past) ≡ down_octets who past ++ octets_of (down_now who (t ∷ past))
down_more who t past = octets_of-append (down_line who past) (down_now who (t ∷ past)) (40 * length past) (omega (arith, length-down_line who past))

-- ---- of more periods

-- **What the Out line has of the first m periods is a front of what it has of any more.**
pub out_more : (r : Run) (c m w n : ℕ) → n ≡ m + w →
    (more : List ℕ) × (out_line (who_in r c) (periods_to r c n) ≡ out_line (who_in r c) (periods_to r c m) ++ more)
out_more r c m zero n e =
    let same : n ≡ m = omega (arith, e) in
    ([], ap (λ (k : ℕ). out_line (who_in r c) (periods_to r c k)) same ∙ sym (append-nil (out_line (who_in r c) (periods_to r c m))))
out_more r c m (suc w) zero e = absurd (omega (arith, e))
out_more r c m (suc w) (suc n) e =
    let was = out_more r c m w n (omega (arith, e)) in
    let next = out_of (who_in r c) (periods_to r c (suc n)) in
    (was.0 ++ next, ap (λ (xs : List ℕ). xs ++ next) was.1 ∙ append_assoc (out_line (who_in r c) (periods_to r c m)) was.0 next)

-- **So is what the Down line has.**
pub down_on : (r : Run) (c m w n : ℕ) → n ≡ m + w →
    (more : List ℕ) × (down_octets (who_in r c) (periods_to r c n) ≡ down_octets (who_in r c) (periods_to r c m) ++ more)
down_on r c m zero n e =
    let same : n ≡ m = omega (arith, e) in
    ([], ap (λ (k : ℕ). down_octets (who_in r c) (periods_to r c k)) same ∙ sym (append-nil (down_octets (who_in r c) (periods_to r c m))))
down_on r c m (suc w) zero e = absurd (omega (arith, e))
down_on r c m (suc w) (suc n) e =
    let was = down_on r c m w n (omega (arith, e)) in
    let next = octets_of (down_now (who_in r c) (periods_to r c (suc n))) in (
      was.0 ++ next,
      down_more (who_in r c) _ (periods_to r c n) ∙ ap (λ (xs : List ℕ). xs ++ next) was.1
          ∙ append_assoc (down_octets (who_in r c) (periods_to r c m)) was.0 next,
    )
