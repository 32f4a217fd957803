-- The text of a closed call.
use Rattle.std.proofs.Common.{◌≡◌, ℕ, Result, List, ◌++◌, ap, ◌∙◌}
use Rattle.std.specs.Prelude.{OnOk}
use Rattle.trau_bits.specs.Bits.{bits_of, octets_of}
use Rattle.farm_report.specs.Sums.{sum_of, sums_told}
use Rattle.farm_live.specs.declared.post.Entry.{Entry}
use Rattle.farm_live.specs.declared.live.Closed.{Closed}
use Rattle.farm_live.specs.Whole.{outs_of, downs_of}
use Rattle.live_run.specs.Text.{closed_line}
use Rattle.live_run.proofs.Behind.{on_ok}

line_is : (d : Closed) (es : List Entry) (out down : ℕ) → es ≡ d.entries.items →
    out ≡ sum_of (outs_of es) → down ≡ sum_of (octets_of (bits_of (downs_of es))) → sums_told d.call out down ≡ closed_line d
unfolding closed_line
line_is d es out down e p q =
    let o : out ≡ sum_of (outs_of d.entries.items) = p ∙ ap (λ (xs : List Entry). sum_of (outs_of xs)) e in
    let w : down ≡ sum_of (octets_of (bits_of (downs_of d.entries.items))) = q ∙ ap (λ (xs : List Entry). sum_of (octets_of (bits_of (downs_of xs)))) e in
    λ i. sums_told d.call (o i) (w i)

pub told : {A E : Type 0} (r : Result A E) (old new : List ℕ) (d : Closed) (es : List Entry)
    (out down : ℕ) → es ≡ d.entries.items → out ≡ sum_of (outs_of es) → down ≡ sum_of (octets_of (bits_of (downs_of es))) →
    OnOk r (new ≡ old ++ sums_told d.call out down) → OnOk r (new ≡ old ++ closed_line d)
told r old new d es out down e p q = on_ok (new ≡ old ++ sums_told d.call out down) (new ≡ old ++ closed_line d) r
    (λ h. h ∙ ap (λ (xs : List ℕ). old ++ xs) (line_is d es out down e p q))
