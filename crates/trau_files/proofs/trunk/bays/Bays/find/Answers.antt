use Rattle.std.proofs.Common.{◌≡◌, ◌⊎◌, ◌<◌, ◌∙◌, List, Option, None, ap, length, length-set, rules, slice_set, sym, subst}
use Rattle.trau_files.specs.Files.{AreBayed, OnlyCloses, OpenLine, in_bay}
use Rattle.trau_files.specs.Bays.{OthersStayOpen}
use Rattle.trau_files.proofs.Freeing.{stay_open}
use Rattle.trau_files.proofs.BayLaws.{IsBayOf, kept_open, kept_or_closed, none_open, none_stood, only_closes, only_bay, bay_read, bayed_still, set_there}
use Rattle.trau_files.proofs.trunk.bays.Bays.find.Given as Given
use Rattle.trau_files.proofs.trunk.bays.Bays.find.Goals as goal
use Rattle.trau_files.proofs.trunk.bays.Bays.find.Goals.{After-stands}

-- the bay that the line's entry names
bay : (g : Given.Over) (c : After-stands g) →
    IsBayOf c.self.inside.files.items c.self.inside.bay_of.items c.args.line.call c.args.line.side c.index-bay.result.now c.index_mut.result.now
bay g c =
    let low : c.index-bay.result.now < 256 = search rules in
    bay_read c.self.inside.files.items c.self.inside.bay_of.items c.args.line.call c.args.line.side c.line_index.result c.index-bay.result.now
    c.index_mut.result.now (sym c.self.inside.files.ok.0 ∙ c.self.invariant.0) (sym c.self.inside.bay_of.ok.0 ∙ c.self.invariant.1)
    low c.line_index.ensures.within c.line_index.ensures.value c.index-bay.ensures c.index_mut.ensures.value

-- its file stays, or is closed
stays : (g : Given.Over) (c : After-stands g) → (c.stands.new.bay ≡ in_bay c.self.inside.files.items c.index-bay.result.now) ⊎ (c.stands.new.bay ≡ None)
stays g c = kept_or_closed (bay g c).here c.stands.ensures.others

bayed : (g : Given.Over) (c : After-stands g) →
    AreBayed (slice_set c.self.inside.files.items c.index-bay.result.now c.stands.new.bay) c.self.inside.bay_of.items
bayed g c = bayed_still c.self.inside.files.items c.index-bay.result.now c.stands.new.bay (stays g c) c.self.inside.bay_of.items c.self.invariant.2

others : (g : Given.Over) (c : After-stands g) → OnlyCloses c.args.self.now (slice_set c.self.inside.files.items c.index-bay.result.now c.stands.new.bay)
others g c =
    subst (λ (bays : List (Option (OpenLine _))). OnlyCloses bays (slice_set c.self.inside.files.items c.index-bay.result.now c.stands.new.bay)) c.self.view_is
    (only_closes c.self.inside.files.items c.index-bay.result.now c.stands.new.bay (stays g c))

stay : (g : Given.Over) (c : After-stands g) →
    OthersStayOpen c.args.self.now (slice_set c.self.inside.files.items c.index-bay.result.now c.stands.new.bay) c.args.line.call c.args.line.side (λ _. ⊥)
stay g c =
    let files = c.self.inside.files.items in
    let here = bay g c in
    subst (λ (bays : List (Option (OpenLine _))). OthersStayOpen bays (slice_set files c.index-bay.result.now c.stands.new.bay) c.args.line.call c.args.line.side (λ _. ⊥))
    c.self.view_is (stay_open files c.index-bay.result.now c.stands.new.bay c.args.line.call c.args.line.side (rw here.here c.stands.ensures.stays))

number : (g : Given.Over) (c : After-stands g) → length (slice_set c.self.inside.files.items c.index-bay.result.now c.stands.new.bay) ≡ length c.args.self.now
number g c = length-set c.self.inside.files.items c.index-bay.result.now c.stands.new.bay ∙ ap length c.self.view_is

pub invariant_of-self : goal.invariant_of-self
invariant_of-self g c = (c.self.invariant.0, c.self.invariant.1, bayed g (goal.at.invariant_of-self g c).After-stands)

pub returns-then-stands : goal.returns-then-stands
returns-then-stands g c =
    let here = bay g (goal.at.returns-then-stands g c).After-stands in
    let files = c.self.inside.files.items in
    let bay = c.index-bay.result.now in
    let put = set_there files bay c.stands.new.bay None here.within in
    let kept = kept_open files c.self.inside.bay_of.items c.args.line.call c.args.line.side c.args.access c.args.at bay c.stands.new.bay
    (here.here ∙ sym (c.stands.ensures.same c.if-stands.true)) (c.stands.ensures.stands c.if-stands.true) here.within c.self.invariant.2 in
    record {
      found = rw put (c.stands.ensures.stands c.if-stands.true);
      same = rw (sym c.self.view_is) (put ∙ c.stands.ensures.same c.if-stands.true ∙ sym here.here);
      only = λ k stood. only_bay files c.self.inside.bay_of.items c.args.line.call c.args.line.side c.args.access c.args.at bay k c.self.invariant.2 here.named
          (rw c.self.view_is stood);
      «open» = rw (sym c.self.view_is) kept;
      missing = λ is. cc;
      closed = λ is. cc;
      others = others g (goal.at.returns-then-stands g c).After-stands;
      stay = stay g (goal.at.returns-then-stands g c).After-stands;
      number = number g (goal.at.returns-then-stands g c).After-stands;
    }

pub invariant_of-self-2 : goal.invariant_of-self-2
invariant_of-self-2 g c = (c.self.invariant.0, c.self.invariant.1, bayed g (goal.at.invariant_of-self-2 g c).After-stands)

pub returns : goal.returns
returns g c =
    let here = bay g (goal.at.returns g c).After-stands in
    record {
      found = tt;
      same = tt;
      only = tt;
      «open» = tt;
      missing = λ _ k stood. none_stood c.self.inside.files.items c.self.inside.bay_of.items c.args.line.call c.args.line.side c.args.access c.args.at
          c.index-bay.result.now k c.index_mut.result.now here.here c.self.invariant.2 here.named (c.stands.ensures.missing c.if-stands.false)
          (rw c.self.view_is stood);
      closed = λ _. none_open c.self.inside.files.items c.index-bay.result.now c.stands.new.bay (stays g (goal.at.returns g c).After-stands) c.self.inside.bay_of.items c.args.line.call c.args.line.side
          here.within c.self.invariant.2 here.named (c.stands.ensures.closed c.if-stands.false);
      others = others g (goal.at.returns g c).After-stands;
      stay = stay g (goal.at.returns g c).After-stands;
      number = number g (goal.at.returns g c).After-stands;
    }
