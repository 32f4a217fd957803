-- What outgoing lines hold, where they fail and where not.
use Rattle.std.proofs.Common.{◌≡◌, refl, sym, ap, ◌∙◌, subst, ℕ, ◌+◌, ◌-◌, ◌*◌, ◌≤◌, Bool, true, false, List, [], ◌++◌, length, take, drop, arith}
use Rattle.std.specs.Io.KnownBytes.{Appends}
use Rattle.std.proofs.KnownBytes.{Appends-trans}
use Rattle.std.proofs.lemmas.List.{length-append, drop-append-le, drop_all, take-append-le, take_all}
use Rattle.std.proofs.Math.Seq.{take-append-add}
use Rattle.trau_io.specs.Lines.{LineState}
use Rattle.round_lines.specs.declared.transfer.Outlet.{Outlet}
use Rattle.round_lines.specs.Transfer.{LineGives, has_failed}
use Rattle.run_spec.specs.Run.{Run, periods_to, who_in}
use Rattle.run_spec.specs.Lines.{out_line, down_octets}
use Rattle.call_leg.proofs.LineLaws.{length-out_line}
use Rattle.run_spec.proofs.Parts.LongerLines.{length-down_octets, length-periods_to, out_more, down_on}
use Rattle.farm_run.specs.Runs.{HasWritten}
use Rattle.farm_run.specs.Fronts.{HasFront}

-- ---- from round to round

-- **A line that had failed is passed over; any other gains the octets, or a proper prefix of them where it fails now.**
pub gains : (first before now : LineState) (was stands : Outlet) (front octets : List ℕ) → LineGives before now was stands octets →
    HasWritten (has_failed was) first before front → HasWritten (has_failed stands) first now (front ++ octets)
gains first before now was stands front octets g = by (has_failed was) refl (has_failed stands) refl
  where
    by : (a : Bool) → has_failed was ≡ a → (b : Bool) → has_failed stands ≡ b →
        HasWritten a first before front → HasWritten b first now (front ++ octets)
    by false e false f w = Appends-trans first.written before.written now.written front octets w (g.all f)
    by false e true f w =
        let part = g.front e f in
        let l = part.1 in (
          length front + part.0,
          omega (arith, l, length-append front octets),
          subst (Appends first.written now.written) (sym (take-append-add front octets part.0))
              (Appends-trans first.written before.written now.written front (take part.0 octets) w part.2),
        )
    by true e false f w = let p = g.passed e in cc
    by true e true f w =
        let p = g.passed e in
        let l = w.1 in (
          w.0,
          omega (arith, l, length-append front octets),
          subst (λ (x : LineState). Appends first.written x.written (take w.0 (front ++ octets))) (sym p.0)
              (subst (Appends first.written before.written) (sym (take-append-le w.0 front octets (omega (arith, l)))) w.2),
        )

-- what was written of the first octets is a prefix of all, a proper one where the line failed inside them
front_of : (fails : Bool) (first now : LineState) (some more : List ℕ) →
    HasWritten fails first now some → HasFront fails first now (some ++ more)
front_of false first now some more w = (
  length some,
  subst (Appends first.written now.written)
      (sym (take-append-le (length some) some more (omega arith) ∙ take_all (length some) some (omega arith))) w,
)
front_of true first now some more w =
    let l = w.1 in
    (w.0, omega (arith, l, length-append some more), subst (Appends first.written now.written) (sym (take-append-le w.0 some more (omega (arith, l)))) w.2)

-- ---- of more periods

-- **What was written of the first m periods is a prefix of what any more give, a proper one where the line failed.**
pub out_front : (r : Run) (c m n : ℕ) (fails : Bool) (first now : LineState) → m ≤ n →
    HasWritten fails first now (out_line (who_in r c) (periods_to r c m)) →
    HasFront fails first now (out_line (who_in r c) (periods_to r c n))
out_front r c m n fails first now l w =
    let more = out_more r c m (n - m) n (omega (arith, l)) in
    subst (HasFront fails first now) (sym more.1) (front_of fails first now (out_line (who_in r c) (periods_to r c m)) more.0 w)

-- what was written of the first m periods on the Down line is such a prefix too
pub down_front : (r : Run) (c m n : ℕ) (fails : Bool) (first now : LineState) → m ≤ n →
    HasWritten fails first now (down_octets (who_in r c) (periods_to r c m)) →
    HasFront fails first now (down_octets (who_in r c) (periods_to r c n))
down_front r c m n fails first now l w =
    let more = down_on r c m (n - m) n (omega (arith, l)) in
    subst (HasFront fails first now) (sym more.1) (front_of fails first now (down_octets (who_in r c) (periods_to r c m)) more.0 w)

-- **If what the first k periods give was held back, what was written of the first m is a prefix of what any more
-- give.**
pub out_front_from : (r : Run) (c k m n : ℕ) (fails : Bool) (first now : LineState) → k ≤ m → m ≤ n →
    HasWritten fails first now (drop (160 * k) (out_line (who_in r c) (periods_to r c m))) →
    HasFront fails first now (drop (160 * k) (out_line (who_in r c) (periods_to r c n)))
out_front_from r c k m n fails first now back l w =
    let more = out_more r c m (n - m) n (omega (arith, l)) in
    let old = out_line (who_in r c) (periods_to r c m) in
    let fits : 160 * k ≤ length old = omega (arith, length-out_line (who_in r c) (periods_to r c m), length-periods_to r c m, back) in
    subst (HasFront fails first now) (sym (ap (drop (160 * k)) more.1 ∙ drop-append-le (160 * k) old more.0 fits))
    (front_of fails first now (drop (160 * k) old) more.0 w)

-- if what the first k periods give was held back, that holds of the Down line too
pub down_front_from : (r : Run) (c k m n : ℕ) (fails : Bool) (first now : LineState) → k ≤ m → m ≤ n →
    HasWritten fails first now (drop (40 * k) (down_octets (who_in r c) (periods_to r c m))) →
    HasFront fails first now (drop (40 * k) (down_octets (who_in r c) (periods_to r c n)))
down_front_from r c k m n fails first now back l w =
    let more = down_on r c m (n - m) n (omega (arith, l)) in
    let old = down_octets (who_in r c) (periods_to r c m) in
    let fits : 40 * k ≤ length old = omega (arith, length-down_octets (who_in r c) (periods_to r c m), length-periods_to r c m, back) in
    subst (HasFront fails first now) (sym (ap (drop (40 * k)) more.1 ∙ drop-append-le (40 * k) old more.0 fits))
    (front_of fails first now (drop (40 * k) old) more.0 w)

-- **What the first m periods give are the first octets of what any more give.**
pub out_taken : (r : Run) (c m n : ℕ) → m ≤ n →
    out_line (who_in r c) (periods_to r c m) ≡ take (160 * m) (out_line (who_in r c) (periods_to r c n))
out_taken r c m n l =
    let more = out_more r c m (n - m) n (omega (arith, l)) in
    let old = out_line (who_in r c) (periods_to r c m) in
    let long : length old ≡ 160 * m = omega (arith, length-out_line (who_in r c) (periods_to r c m), length-periods_to r c m) in
    sym (ap (take (160 * m)) more.1 ∙ take-append-le (160 * m) old more.0 (omega (arith, long)) ∙ take_all (160 * m) old (omega (arith, long)))

-- what the first m periods give the Down line are the first octets of what any more give
pub down_taken : (r : Run) (c m n : ℕ) → m ≤ n →
    down_octets (who_in r c) (periods_to r c m) ≡ take (40 * m) (down_octets (who_in r c) (periods_to r c n))
down_taken r c m n l =
    let more = down_on r c m (n - m) n (omega (arith, l)) in
    let old = down_octets (who_in r c) (periods_to r c m) in
    let long : length old ≡ 40 * m = omega (arith, length-down_octets (who_in r c) (periods_to r c m), length-periods_to r c m) in
    sym (ap (take (40 * m)) more.1 ∙ take-append-le (40 * m) old more.0 (omega (arith, long)) ∙ take_all (40 * m) old (omega (arith, long)))

-- **At the period from which on a line is written, it has gained nothing.**
pub none_out : (r : Run) (c k : ℕ) → drop (160 * k) (out_line (who_in r c) (periods_to r c k)) ≡ []
none_out r c k =
    drop_all (160 * k) (out_line (who_in r c) (periods_to r c k)) (omega (arith, length-out_line (who_in r c) (periods_to r c k), length-periods_to r c k))

pub none_down : (r : Run) (c k : ℕ) → drop (40 * k) (down_octets (who_in r c) (periods_to r c k)) ≡ []
none_down r c k =
    drop_all (40 * k) (down_octets (who_in r c) (periods_to r c k)) (omega (arith, length-down_octets (who_in r c) (periods_to r c k), length-periods_to r c k))
