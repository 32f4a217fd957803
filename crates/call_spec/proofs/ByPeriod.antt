-- Each period's place in the whole lines, and the history of a leg.
use Rattle.std.proofs.Common.{◌≡◌, sym, ap, ◌∙◌, ℕ, ◌*◌, List, [], ◌∷◌, ◌++◌, length, take, drop, All, append-nil}
use Rattle.std.proofs.lemmas.List.{append_assoc}
use Rattle.std.proofs.lemmas.List.Elements.{All-nil, All-cons, All-head, All-tail}
use Rattle.std.proofs.Math.Seq.{take-append_seam, drop-append_seam}
use Rattle.call_leg.specs.Who.{Who}
use Rattle.call_leg.specs.Periods.{CallPeriod, ups_of}
use Rattle.call_leg.specs.Settings.{Settings}
use Rattle.call_leg.specs.Out.{out_of, out_line}
use Rattle.call_leg.specs.Down.{down_now, down_line}
use Rattle.call_leg.specs.Memory.{LegMemory}
use Rattle.call_leg.specs.Stands.{Stands}
use Rattle.call_leg.proofs.LineLaws.{length-out_of, length-out_line, length-down_now, length-down_line}
use Rattle.call_spec.specs.History.{IsCallHistory}

-- ---- the octets of a period

-- a part of so many items, behind so many others
part : (n m : ℕ) (before here after : List ℕ) → length before ≡ n → length here ≡ m → here ≡ take m (drop n ((before ++ here) ++ after))
part n m before here after b h =
    let rest : drop n ((before ++ here) ++ after) ≡ here ++ after =
    ap (λ xs. drop n xs) (append_assoc before here after) ∙ ap (λ k. drop k (before ++ (here ++ after))) (sym b) ∙ drop-append_seam before (here ++ after) in
    sym (ap (take m) rest ∙ ap (λ k. take k (here ++ after)) (sym h) ∙ take-append_seam here after)

-- later periods add to the lines
outs-later : (who : Who) (later ts : List CallPeriod) → (more : List ℕ) × (out_line who (later ++ ts) ≡ out_line who ts ++ more)
outs-later who [] ts = ([], sym (append-nil (out_line who ts)))
outs-later who (t ∷ later) ts =
    let so_far = outs-later who later ts in
    let new = out_of who (t ∷ (later ++ ts)) in
    (so_far.0 ++ new, ap (λ xs. xs ++ new) so_far.1 ∙ append_assoc (out_line who ts) so_far.0 new)

downs-later : (who : Who) (later ts : List CallPeriod) → (more : List ℕ) × (down_line who (later ++ ts) ≡ down_line who ts ++ more)
downs-later who [] ts = ([], sym (append-nil (down_line who ts)))
downs-later who (t ∷ later) ts =
    let so_far = downs-later who later ts in
    let new = down_now who (t ∷ (later ++ ts)) in
    (so_far.0 ++ new, ap (λ xs. xs ++ new) so_far.1 ∙ append_assoc (down_line who ts) so_far.0 new)

-- **So each period's octets of the Out line stand at its place ..**
pub out-place : (who : Who) (later past : List CallPeriod) (t : CallPeriod) (whole : List ℕ) → out_line who (later ++ t ∷ past) ≡ whole →
    out_of who (t ∷ past) ≡ take 160 (drop (160 * length past) whole)
out-place who later past t whole same =
    let more = outs-later who later (t ∷ past) in
    part (160 * length past) 160 (out_line who past) (out_of who (t ∷ past)) more.0 (length-out_line who past) (length-out_of who (t ∷ past))
    ∙ ap (λ xs. take 160 (drop (160 * length past) xs)) (sym more.1 ∙ same)

-- **.. and so do its bits of the Down line.**
pub down-place : (who : Who) (later past : List CallPeriod) (t : CallPeriod) (whole : List ℕ) → down_line who (later ++ t ∷ past) ≡ whole →
    down_now who (t ∷ past) ≡ take 320 (drop (320 * length past) whole)
down-place who later past t whole same =
    let more = downs-later who later (t ∷ past) in
    part (320 * length past) 320 (down_line who past) (down_now who (t ∷ past)) more.0 (length-down_line who past) (length-down_now who t past)
    ∙ ap (λ xs. take 320 (drop (320 * length past) xs)) (sym more.1 ∙ same)

-- ---- the history of a leg

ups-by : (ts : List CallPeriod) → All (λ octets. length octets ≡ 40) (ups_of ts) → All (λ t. length t.up ≡ 40) ts
ups-by [] h = All-nil (λ t. length t.up ≡ 40)
ups-by (t ∷ past) h =
    All-cons (λ t. length t.up ≡ 40) t past (All-head (λ octets. length octets ≡ 40) t.up (ups_of past) h)
    (ups-by past (All-tail (λ octets. length octets ≡ 40) t.up (ups_of past) h))

-- **The periods that a leg stands for are a history of a call.**
pub leg-history : (m : LegMemory) (who : Who) (ts : List CallPeriod) (now : Settings) → Stands who ts now m → IsCallHistory ts
leg-history m who ts now h = record {
  ups = ups-by ts h.search.periods;
  pcms = h.down.pcms;
  bridges = h.down.history;
}
