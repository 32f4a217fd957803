-- What the newest periods add to the octets of a call's outgoing lines.
use Rattle.std.proofs.Common.{◌≡◌, refl, sym, ap, ◌∙◌, ℕ, zero, suc, ◌+◌, List, [], ◌∷◌, ◌++◌, drop, arith}
use Rattle.std.proofs.lemmas.List.{append-nil, append_assoc}
use Rattle.trau_bits.specs.Bits.{octets_of}
use Rattle.call_leg.specs.Who.{Who}
use Rattle.call_leg.specs.Periods.{CallPeriod}
use Rattle.call_leg.specs.Out.{out_of}
use Rattle.call_leg.specs.Down.{down_now}
use Rattle.call_pair.specs.History.{outs_of, downs_of}
use Rattle.run_spec.specs.Run.{Run, periods_to, who_in}
use Rattle.run_spec.specs.Lines.{out_line, down_octets}
use Rattle.run_spec.proofs.Parts.LongerLines.{down_more}

-- **The Out line is that of the earlier periods, and behind it the octets of the newest w.**
pub out_line-more : (who : Who) (w : ℕ) (ts : List CallPeriod) → out_line who ts ≡ out_line who (drop w ts) ++ outs_of who w ts
out_line-more who zero ts = sym (append-nil (out_line who ts))
out_line-more who (suc w) [] = refl
out_line-more who (suc w) (t ∷ past) =
    ap (λ (xs : List ℕ). xs ++ out_of who (t ∷ past)) (out_line-more who w past)
    ∙ append_assoc (out_line who (drop w past)) (outs_of who w past) (out_of who (t ∷ past))

-- **The Down line is that of the earlier periods, and behind it the octets of the newest w.**
pub down_octets-more : (who : Who) (w : ℕ) (ts : List CallPeriod) → down_octets who ts ≡ down_octets who (drop w ts) ++ downs_of who w ts
down_octets-more who zero ts = sym (append-nil (down_octets who ts))
down_octets-more who (suc w) [] = sym (append-nil (down_octets who []))
down_octets-more who (suc w) (t ∷ past) =
    down_more who t past ∙ ap (λ (xs : List ℕ). xs ++ octets_of (down_now who (t ∷ past))) (down_octets-more who w past)
    ∙ append_assoc (down_octets who (drop w past)) (downs_of who w past) (octets_of (down_now who (t ∷ past)))

-- ---- the periods of a run

-- without the newest w of them
pub drop-periods_to : (r : Run) (c m w : ℕ) → drop w (periods_to r c (m + w)) ≡ periods_to r c m
drop-periods_to r c m zero = let e : m + 0 ≡ m = omega arith in ap (periods_to r c) e
drop-periods_to r c m (suc w) = let e : m + suc w ≡ suc (m + w) = omega arith in ap (λ (k : ℕ). drop (suc w) (periods_to r c k)) e ∙ drop-periods_to r c m w

-- **What w periods of a call add to its lines.**
pub out_of_periods : (r : Run) (c m w : ℕ) → out_line (who_in r c) (periods_to r c (m + w))
    ≡ out_line (who_in r c) (periods_to r c m) ++ outs_of (who_in r c) w (periods_to r c (m + w))
out_of_periods r c m w = out_line-more (who_in r c) w (periods_to r c (m + w))
    ∙ ap (λ (ts : List CallPeriod). out_line (who_in r c) ts ++ outs_of (who_in r c) w (periods_to r c (m + w))) (drop-periods_to r c m w)

-- what w periods of a call add to its Down line
pub down_of_periods : (r : Run) (c m w : ℕ) → down_octets (who_in r c) (periods_to r c (m + w))
    ≡ down_octets (who_in r c) (periods_to r c m) ++ downs_of (who_in r c) w (periods_to r c (m + w))
down_of_periods r c m w = down_octets-more (who_in r c) w (periods_to r c (m + w))
    ∙ ap (λ (ts : List CallPeriod). down_octets (who_in r c) ts ++ downs_of (who_in r c) w (periods_to r c (m + w))) (drop-periods_to r c m w)
