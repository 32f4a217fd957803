use Rattle.std.proofs.Common.{◌≡◌, ◌≢◌, ◌∷◌, ◌∙◌, ℕ, List, [], Some, None, length, refl, sym, subst, arith, append-nil}
use Rattle.std.specs.Array.{IsWholeChunk}
use Rattle.std.proofs.lemmas.Option.{MatchOption-at_some}
use Rattle.frame_sync.specs.Periods.{yield_of}
use Rattle.frame_sync.specs.Stands.{Stands}
use Rattle.block_lines.proofs.Making.{nothing_left}
use Rattle.frame_listing.specs.Machine.{frames_machine}
use Rattle.frame_listing.specs.Texts.{line_of}
use Rattle.frame_listing.proofs.Periods.{one_period, room_for_period, room_for_yield}
use Rattle.frame_listing.proofs.listing.ListingBlockMachine.make.Goals as goal

pub feed-requires : goal.feed-requires
feed-requires c = room_for_period c.args.self.now.sync c.args.self.now.yields c.requires.room

pub overflow_add-self : goal.overflow_add-self
overflow_add-self c = let few = room_for_yield c.args.self.now.sync c.args.self.now.yields c.requires.room in omega arith

pub returns-then-block-lt40-clause-makes : goal.returns-then-block-lt40-clause-makes
returns-then-block-lt40-clause-makes c =
    nothing_left frames_machine _ c.args.block.now (λ j. []) c.clear.new.self.bytes c.clear.ensures (λ periods. refl) (λ j periods. refl)
    (record { less = c.if-block-lt40.true; good = tt })

pub returns-in_default-clause-makes : goal.returns-in_default-clause-makes
returns-in_default-clause-makes c =
    let whole : length c.args.block.now ≡ 40 = omega (arith, c.requires.bound, c.if-block-lt40.false) in
    let period = (MatchOption-at_some (length c.args.block.now ≢ 40) (λ y. IsWholeChunk c.args.block.now y.now 40) c.unwrap-period.result
    c.unwrap-period.ensures c.as_array.ensures.cases).same in
    let found = subst (λ r. (past : List (List ℕ)) → Stands past c.args.self.now.sync →
    Stands (c.unwrap-period.result.now ∷ past) c.feed.new.self × (r ≡ yield_of c.unwrap-period.result.now past)) c.in_default.is c.feed.ensures.history in
    one_period c.args.self.now.sync c.feed.new.self c.args.self.now.yields _ 0 (omega arith) c.args.block.now (λ j. []) c.clear.new.self.bytes None
    (subst (λ o. (past : List (List ℕ)) → Stands past c.args.self.now.sync →
    Stands (o ∷ past) c.feed.new.self × (None ≡ yield_of o past)) period found) refl (omega arith) whole c.clear.ensures

pub returns-in-Some-clause-makes : goal.returns-in-Some-clause-makes
returns-in-Some-clause-makes c =
    let whole : length c.args.block.now ≡ 40 = omega (arith, c.requires.bound, c.if-block-lt40.false) in
    let period = (MatchOption-at_some (length c.args.block.now ≢ 40) (λ y. IsWholeChunk c.args.block.now y.now 40) c.unwrap-period.result
    c.unwrap-period.ensures c.as_array.ensures.cases).same in
    let found = subst (λ r. (past : List (List ℕ)) → Stands past c.args.self.now.sync →
    Stands (c.unwrap-period.result.now ∷ past) c.feed.new.self × (r ≡ yield_of c.unwrap-period.result.now past)) c.in-Some.is c.feed.ensures.history in
    one_period c.args.self.now.sync c.feed.new.self c.args.self.now.yields _ 1 refl c.args.block.now (λ j. []) c.write_line.new.text.bytes
    (Some c.in-Some.found) (subst (λ o. (past : List (List ℕ)) → Stands past c.args.self.now.sync →
    Stands (o ∷ past) c.feed.new.self × (Some c.in-Some.found ≡ yield_of o past)) period found) refl (omega arith) whole
    (c.write_line.ensures ∙ sym (append-nil (line_of c.in-Some.found)))
