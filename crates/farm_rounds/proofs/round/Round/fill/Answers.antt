use Rattle.std.proofs.Common.{◌≡◌, ◌<◌, sym, ap, ◌∙◌, subst, ℕ, List, ◌++◌, length, take, drop, arith}
use Rattle.std.specs.Global.{Box}
use Rattle.std.specs.List.{All}
use Rattle.round_lines.specs.Portions.{Fills}
use Rattle.round_lines.specs.Rounds.{Each, KeepsButEach, IsIncoming, Rising, portion_at}
use Rattle.farm_rounds.specs.declared.open.OpenCall.{OpenCall}
use Rattle.farm_rounds.specs.Calls.{Kept}
use Rattle.farm_rounds.specs.Opens.{opens_in, calls_of, portions_of}
use Rattle.farm_rounds.specs.Opened.{same_portions, HasBuffers}
use Rattle.farm_rounds.specs.Rounds.{EndsShort}
use Rattle.farm_rounds.specs.Working.{RoundMemory, IsRound}
use Rattle.farm_rounds.specs.Failed.{AreFailedBefore}
use Rattle.farm_rounds.proofs.Places.Boxes.{opens_long, portions_long}
use Rattle.farm_rounds.proofs.Work.Portions.{is_short}
use Rattle.farm_rounds.proofs.Places.Written.{back}
use Rattle.farm_rounds.proofs.Fill.{round_rising, round_fits, same_boxes, same_kept, as_long, filled, portion_fits}
use Rattle.farm_rounds.proofs.Failed.Known.{known_filled}
use Rattle.farm_rounds.proofs.round.Round.fill.Goals as goal

pub fill_all-requires-clause-rising : goal.fill_all-requires-clause-rising
fill_all-requires-clause-rising g c =
    let i = c.self.inside.calls in
    subst (λ (bs : List (Box OpenCall)). Rising (portions_of bs)) (sym c.deref_mut.ensures.value)
    (round_rising c.self.inside.start i.ended i.live.items (opens_in i.open.items) c.self.invariant.0)

pub fill_all-requires-clause-fits : goal.fill_all-requires-clause-fits
fill_all-requires-clause-fits g c =
    let i = c.self.inside.calls in
    subst (λ (bs : List (Box OpenCall)). All HasBuffers (opens_in bs)) (sym c.deref_mut.ensures.value)
    (round_fits c.self.inside.start i.ended i.live.items (opens_in i.open.items) c.self.invariant.0)

pub invariant_of-self : goal.invariant_of-self
invariant_of-self g c =
    let i = c.self.inside.calls in
    let new = c.fill_all.new.calls in
    let a = g.T.Trunk.lines c.args.trunk.now in
    let b = g.T.Trunk.lines c.fill_all.new.trunk in
    let kept : same_portions new ≡ same_portions i.open.items = c.fill_all.ensures.kept ∙ ap same_portions c.deref_mut.ensures.value in
    let whole =
    back i.open.len new i.open.items (omega (arith, c.deref_mut.ensures.len, ap length c.deref_mut.ensures.value)) (same_boxes new i.open.items kept) in
    let fills : Each Fills a b (portions_of i.open.items) (portions_of new) (length i.open.items) =
    subst (λ (bs : List (Box OpenCall)). Each Fills a b (portions_of bs) (portions_of new) (length bs)) c.deref_mut.ensures.value c.fill_all.ensures.fills in (
      subst (λ (bs : List (Box OpenCall)). IsRound c.self.inside.start i.ended i.live.items (opens_in bs)) (sym whole)
          (filled c.self.inside.start i.ended i.live.items (opens_in new) (opens_in i.open.items) kept (as_long a b new i.open.items kept fills) c.self.invariant.0),
      c.self.invariant.1,
      c.self.invariant.2,
      c.self.invariant.3,
      c.self.invariant.4,
      c.self.invariant.5,
      c.self.invariant.6,
      subst (λ (bs : List (Box OpenCall)). AreFailedBefore i.failed.items (opens_in bs)) (sym whole)
          (known_filled c.self.inside.start i.ended i.live.items i.failed.items a b new i.open.items c.self.invariant.0 kept fills c.self.invariant.7),
    )

pub returns-clause-fills : goal.returns-clause-fills
returns-clause-fills g c =
    let i = c.self.inside.calls in
    let new = c.fill_all.new.calls in
    let a = g.T.Trunk.lines c.args.trunk.now in
    let b = g.T.Trunk.lines c.fill_all.new.trunk in
    let kept : same_portions new ≡ same_portions i.open.items = c.fill_all.ensures.kept ∙ ap same_portions c.deref_mut.ensures.value in
    let whole =
    back i.open.len new i.open.items (omega (arith, c.deref_mut.ensures.len, ap length c.deref_mut.ensures.value)) (same_boxes new i.open.items kept) in
    let fills : Each Fills a b (portions_of i.open.items) (portions_of new) (length i.open.items) =
    subst (λ (bs : List (Box OpenCall)). Each Fills a b (portions_of bs) (portions_of new) (length bs)) c.deref_mut.ensures.value c.fill_all.ensures.fills in
    subst (λ (bs : List (Box OpenCall)). Each Fills a b c.args.self.now.portions (portions_of bs) (length c.args.self.now.portions)) (sym whole)
    (subst (λ (r : RoundMemory). Each Fills a b r.portions (portions_of new) (length r.portions)) c.self.view_is
    (subst (λ (n : ℕ). Each Fills a b (portions_of i.open.items) (portions_of new) n) (sym (portions_long i.open.items)) fills))

pub returns-clause-others : goal.returns-clause-others
returns-clause-others g c =
    let i = c.self.inside.calls in
    let a = g.T.Trunk.lines c.args.trunk.now in
    let b = g.T.Trunk.lines c.fill_all.new.trunk in
    let others : KeepsButEach IsIncoming a b (portions_of i.open.items) (length i.open.items) =
    subst (λ (bs : List (Box OpenCall)). KeepsButEach IsIncoming a b (portions_of bs) (length bs)) c.deref_mut.ensures.value c.fill_all.ensures.others in
    subst (λ (r : RoundMemory). KeepsButEach IsIncoming a b r.portions (length r.portions)) c.self.view_is
    (subst (λ (n : ℕ). KeepsButEach IsIncoming a b (portions_of i.open.items) n) (sym (portions_long i.open.items)) others)

pub returns-clause-kept : goal.returns-clause-kept
returns-clause-kept g c =
    let i = c.self.inside.calls in
    let new = c.fill_all.new.calls in
    let kept : same_portions new ≡ same_portions i.open.items = c.fill_all.ensures.kept ∙ ap same_portions c.deref_mut.ensures.value in
    let whole =
    back i.open.len new i.open.items (omega (arith, c.deref_mut.ensures.len, ap length c.deref_mut.ensures.value)) (same_boxes new i.open.items kept) in
    let portions = portions_of (take i.open.len (new ++ drop (length new) i.open.items)) in
    ap (λ (ks : List Kept). record {
      start = c.self.inside.start;
      farm = record { calls = ks; live = i.live.items; tallies = i.tallies.items; failed = i.failed.items; ended = i.ended };
      portions = portions;
    }) (ap calls_of whole ∙ same_kept (opens_in new) (opens_in i.open.items) kept)
    ∙ ap (λ (r : RoundMemory). record r { portions = portions }) c.self.view_is

pub returns-clause-number : goal.returns-clause-number
returns-clause-number g c =
    let i = c.self.inside.calls in
    let new = c.fill_all.new.calls in
    let kept : same_portions new ≡ same_portions i.open.items = c.fill_all.ensures.kept ∙ ap same_portions c.deref_mut.ensures.value in
    let number = same_boxes new i.open.items kept in
    let whole = back i.open.len new i.open.items (omega (arith, c.deref_mut.ensures.len, ap length c.deref_mut.ensures.value)) number in
    ap (λ (bs : List (Box OpenCall)). length (portions_of bs)) whole ∙ portions_long new ∙ number ∙ sym (portions_long i.open.items)
    ∙ ap (λ (r : RoundMemory). length r.portions) c.self.view_is

pub returns-clause-rising : goal.returns-clause-rising
returns-clause-rising g c =
    let i = c.self.inside.calls in
    let new = c.fill_all.new.calls in
    let kept : same_portions new ≡ same_portions i.open.items = c.fill_all.ensures.kept ∙ ap same_portions c.deref_mut.ensures.value in
    let whole =
    back i.open.len new i.open.items (omega (arith, c.deref_mut.ensures.len, ap length c.deref_mut.ensures.value)) (same_boxes new i.open.items kept) in
    subst (λ (bs : List (Box OpenCall)). Rising (portions_of bs)) (sym whole) c.fill_all.ensures.rising

pub returns-clause-short : goal.returns-clause-short
returns-clause-short g c =
    let i = c.self.inside.calls in
    let new = c.fill_all.new.calls in
    let a = g.T.Trunk.lines c.args.trunk.now in
    let b = g.T.Trunk.lines c.fill_all.new.trunk in
    let kept : same_portions new ≡ same_portions i.open.items = c.fill_all.ensures.kept ∙ ap same_portions c.deref_mut.ensures.value in
    let number = same_boxes new i.open.items kept in
    let whole = back i.open.len new i.open.items (omega (arith, c.deref_mut.ensures.len, ap length c.deref_mut.ensures.value)) number in
    let fills : Each Fills a b (portions_of i.open.items) (portions_of new) (length i.open.items) =
    subst (λ (bs : List (Box OpenCall)). Each Fills a b (portions_of bs) (portions_of new) (length bs)) c.deref_mut.ensures.value c.fill_all.ensures.fills in
    subst (λ (bs : List (Box OpenCall)). (k : ℕ) → k < length (portions_of bs) → EndsShort (portion_at (portions_of bs) k).lines) (sym whole)
    (λ k l.
    let lk : k < length i.open.items = omega (arith, l, portions_long new, number) in
    is_short _ _ (portion_at (portions_of i.open.items) k) (portion_at (portions_of new) k) (fills k lk)
    (portion_fits c.self.inside.start i.ended i.live.items (opens_in i.open.items) k c.self.invariant.0 (omega (arith, lk, opens_long i.open.items))))
