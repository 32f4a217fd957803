use Rattle.std.proofs.Common.{◌≡◌, sym, ap, ◌∙◌, subst, ℕ, Bool, Option, List, ◌++◌, length, take, drop, arith}
use Rattle.std.specs.Prelude.{if◌then◌else◌, ◌&&◌}
use Rattle.std.specs.List.{All}
use Rattle.std.specs.Global.{Box}
use Rattle.std.proofs.lemmas.List.{length-map}
use Rattle.round_lines.specs.Portions.{PortionMemory, Drains}
use Rattle.round_lines.specs.Rounds.{Each, KeepsButEach, IsOutgoing, Rising}
use Rattle.farm_rounds.specs.declared.open.OpenCall.{OpenCall}
use Rattle.farm_rounds.specs.Calls.{partner_in}
use Rattle.farm_rounds.specs.Numbers.{is_among}
use Rattle.farm_rounds.specs.Memory.{tally_in}
use Rattle.farm_rounds.specs.Opens.{opens_in, calls_of, portions_of, same_call}
use Rattle.farm_rounds.specs.Opened.{HasBuffers, same_calls}
use Rattle.farm_rounds.specs.Histories.{CallHistory, CallsStand, kept_of}
use Rattle.farm_rounds.specs.Working.{WorkedMemory, IsWorkedRound, GainsFailed, goes_on_call, partner_past}
use Rattle.farm_rounds.specs.RoundHistories.{WorkedStand, KnowFailed, IsPassed, those_that}
use Rattle.farm_rounds.specs.Failed.{AreFailedBefore}
use Rattle.farm_rounds.proofs.Places.Boxes.{opens_long, portions_long}
use Rattle.farm_rounds.proofs.Places.Empty.{make_farm}
use Rattle.farm_rounds.proofs.Work.Marks.{still_worked, still_stand, same_going, same_partners, buffered, portions_rise}
use Rattle.farm_rounds.proofs.Places.Written.{back}
use Rattle.farm_rounds.proofs.Failed.Known.{known_drained}
use Rattle.farm_rounds.proofs.worked.Worked.drain.Given as given
use Rattle.farm_rounds.proofs.worked.Worked.drain.Goals as goal

-- the round with these calls
abbrev drained_round : WorkedMemory → List (Box OpenCall) → WorkedMemory
drained_round r now = record r { farm = record r.farm { calls = calls_of now }; portions = portions_of now }

-- the calls are the same but for the marks of their outgoing lines
kept : (was here now : List (Box OpenCall)) → here ≡ was → same_calls now ≡ same_calls here → same_calls now ≡ same_calls was
kept was here now e k = k ∙ ap (λ (bs : List (Box OpenCall)). same_calls bs) e

many : (was now : List (Box OpenCall)) → same_calls now ≡ same_calls was → length now ≡ length was
many was now k =
    sym (opens_long now) ∙ sym (length-map (opens_in now) same_call) ∙ ap length k ∙ length-map (opens_in was) same_call ∙ opens_long was

-- all of them are given on
written : (n : ℕ) (was here now : List (Box OpenCall)) → here ≡ was → length here ≡ n → same_calls now ≡ same_calls here →
    take n (now ++ drop (length now) was) ≡ now
written n was here now e l k = back n now was (omega (arith, l, ap length e)) (many was now (kept was here now e k))

same : (g : given.Over) (c : goal.After-pass g) → same_calls c.drain_all.new.calls ≡ same_calls c.self.inside.calls.open.items
same g c = kept c.self.inside.calls.open.items c.deref_mut.result.now c.drain_all.new.calls c.deref_mut.ensures.value c.drain_all.ensures.kept

-- the round that is passed on
after : (g : given.Over) (c : goal.After-pass g) →
    let i = c.self.inside.calls in
    let calls = take i.open.len (c.drain_all.new.calls ++ drop (length c.drain_all.new.calls) i.open.items) in
    record {
      farm = make_farm calls i.live.items i.tallies.items i.failed.items i.ended;
      portions = portions_of calls;
      ends = c.self.inside.ends.items;
    } ≡ drained_round c.args.self c.drain_all.new.calls
after g c =
    let i = c.self.inside.calls in
    ap (λ (bs : List (Box OpenCall)).
    record {
      farm = make_farm bs i.live.items i.tallies.items i.failed.items i.ended;
      portions = portions_of bs;
      ends = c.self.inside.ends.items;
    })
    (written i.open.len i.open.items c.deref_mut.result.now c.drain_all.new.calls c.deref_mut.ensures.value c.deref_mut.ensures.len
    c.drain_all.ensures.kept)
    ∙ ap (λ (r : WorkedMemory). drained_round r c.drain_all.new.calls) c.self.view_is

-- the same calls go on, with the same partners
goes : (g : given.Over) (c : goal.After-pass g) → goes_on_call (portions_of c.drain_all.new.calls) ≡ goes_on_call c.args.self.portions
goes g c =
    same_going (opens_in c.self.inside.calls.open.items) (opens_in c.drain_all.new.calls) (same g c)
    ∙ ap (λ (r : WorkedMemory). goes_on_call r.portions) c.self.view_is

partners : (g : given.Over) (c : goal.After-pass g) → partner_in (calls_of c.drain_all.new.calls) ≡ partner_in c.args.self.farm.calls
partners g c =
    same_partners (opens_in c.self.inside.calls.open.items) (opens_in c.drain_all.new.calls) (same g c)
    ∙ ap (λ (r : WorkedMemory). partner_in r.farm.calls) c.self.view_is

-- the calls stand for the same periods
stands : (g : given.Over) (c : goal.After-pass g) (h : ℕ → Option CallHistory) → WorkedStand h c.args.self →
    WorkedStand h (drained_round c.args.self c.drain_all.new.calls)
stands g c h stand =
    still_stand (opens_in c.self.inside.calls.open.items) (opens_in c.drain_all.new.calls) (same g c) h
    (subst (λ (r : WorkedMemory). WorkedStand h r) (sym c.self.view_is) stand)

pub drain_all-requires-clause-rising : goal.drain_all-requires-clause-rising
drain_all-requires-clause-rising g c =
    subst (λ (bs : List (Box OpenCall)). Rising (portions_of bs)) (sym c.deref_mut.ensures.value) (portions_rise _ _ _ c.self.invariant.0)

pub drain_all-requires-clause-fits : goal.drain_all-requires-clause-fits
drain_all-requires-clause-fits g c =
    subst (λ (bs : List (Box OpenCall)). All HasBuffers (opens_in bs)) (sym c.deref_mut.ensures.value) (buffered _ _ _ c.self.invariant.0)

pub invariant_of-self : goal.invariant_of-self
invariant_of-self g c =
    let i = c.self.inside.calls in
    let now = c.drain_all.new.calls in
    let here = c.deref_mut.result.now in
    let before = g.T.Trunk.lines c.args.trunk.now in
    let behind = g.T.Trunk.lines c.drain_all.new.trunk in (
      subst (λ (bs : List (Box OpenCall)). IsWorkedRound i.ended i.live.items (opens_in bs))
          (sym (written i.open.len i.open.items here now c.deref_mut.ensures.value c.deref_mut.ensures.len c.drain_all.ensures.kept))
          (still_worked (opens_in i.open.items) (opens_in now) (kept i.open.items here now c.deref_mut.ensures.value c.drain_all.ensures.kept) i.ended
          i.live.items c.self.invariant.0),
      c.self.invariant.1,
      c.self.invariant.2,
      subst (λ (bs : List (Box OpenCall)). AreFailedBefore i.failed.items (opens_in bs))
          (sym (written i.open.len i.open.items here now c.deref_mut.ensures.value c.deref_mut.ensures.len c.drain_all.ensures.kept))
          (known_drained i.failed.items before behind now i.open.items
          (many i.open.items now (kept i.open.items here now c.deref_mut.ensures.value c.drain_all.ensures.kept))
          (subst (λ (bs : List (Box OpenCall)). Each Drains before behind (portions_of bs) (portions_of now) (length bs)) c.deref_mut.ensures.value
          c.drain_all.ensures.drains) c.self.invariant.3),
    )

-- what is said of the calls' places is said of the portions
portioned : (g : given.Over) (c : goal.After-pass g) (P : List PortionMemory → ℕ → Type 0) →
    P (portions_of c.deref_mut.result.now) (length c.deref_mut.result.now) → P c.args.self.portions (length c.args.self.portions)
portioned g c P said =
    let was = c.self.inside.calls.open.items in
    subst (λ (r : WorkedMemory). P r.portions (length r.portions)) c.self.view_is
    (subst (λ (n : ℕ). P (portions_of was) n) (sym (portions_long was))
    (subst (λ (bs : List (Box OpenCall)). P (portions_of bs) (length bs)) c.deref_mut.ensures.value said))

pub returns-clause-drains : goal.returns-clause-drains
returns-clause-drains g c =
    let now = c.drain_all.new.calls in
    let before = g.T.Trunk.lines c.args.trunk.now in
    let behind = g.T.Trunk.lines c.drain_all.new.trunk in
    let gains =
    subst (λ (r : WorkedMemory). GainsFailed r.farm.failed c.pass.result.failed r.portions × KnowFailed r.portions c.pass.result.calls) (after g c)
    c.pass.ensures.gains in (
      portions_of now,
      portioned g c (λ ss n. Each Drains before behind ss (portions_of now) n) c.drain_all.ensures.drains,
      gains.0,
      gains.1,
      portions_long now ∙ many c.self.inside.calls.open.items now (same g c) ∙ sym (portions_long c.self.inside.calls.open.items) ∙ ap (λ (r : WorkedMemory). length r.portions) c.self.view_is,
    )

pub returns-clause-others : goal.returns-clause-others
returns-clause-others g c =
    portioned g c (λ ss n. KeepsButEach IsOutgoing (g.T.Trunk.lines c.args.trunk.now) (g.T.Trunk.lines c.drain_all.new.trunk) ss n) c.drain_all.ensures.others

pub returns-clause-passed : goal.returns-clause-passed
returns-clause-passed g c =
    let f = c.pass.result in
    let was = c.args.self.farm in
    let p = subst (λ (r : WorkedMemory). IsPassed r f) (after g c) c.pass.ensures.passed in
    record {
      ended = p.ended;
      live = subst (λ (stays : ℕ → Bool). (d : ℕ) → is_among f.live d ≡ (is_among was.live d && stays d)) (goes g c) p.live;
      is_open = p.is_open;
      partners = subst (λ (q : ℕ → Option ℕ). (d : ℕ) → partner_in f.calls d ≡ partner_past (goes_on_call c.args.self.portions) q d) (partners g c)
          (subst (λ (stays : ℕ → Bool). (d : ℕ) → partner_in f.calls d ≡ partner_past stays (partner_in (calls_of c.drain_all.new.calls)) d) (goes g c)
          p.partners);
      history = λ h stand. subst (λ (stays : ℕ → Bool). CallsStand (those_that stays h) f.calls) (goes g c) (p.history h (stands g c h stand));
      tallies = λ h stand. subst (λ (stays : ℕ → Bool). (d : ℕ) → tally_in f.tallies d
          ≡ (if stays d then tally_in was.tallies d else kept_of (h d) (tally_in was.tallies d))) (goes g c) (p.tallies h (stands g c h stand));
    }
