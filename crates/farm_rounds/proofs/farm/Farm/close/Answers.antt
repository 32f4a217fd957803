use Rattle.std.proofs.Common.{◌≡◌, ◌<◌, ◌∙◌, ap, sym, subst, ℕ, List, length, map, arith}
use Rattle.switchboard.specs.declared.act.Act.TheVariants as act
use Rattle.std.proofs.Math.ListN.{set}
use Rattle.std.proofs.lemmas.List.{length-set, get_or-set_same, get_or-set_other}
use Rattle.std.specs.List.{All}
use Rattle.farm_rounds.specs.declared.open.OpenCall.{OpenCall}
use Rattle.farm_rounds.specs.declared.tally.Tally.{Tally}
use Rattle.farm_rounds.specs.Calls.{partner_in, call_in}
use Rattle.farm_rounds.specs.Memory.{FarmMemory, no_tally, tally_in}
use Rattle.farm_rounds.specs.Acts.{IsOpen, Applied}
use Rattle.farm_rounds.specs.Opens.{opens_in, calls_of, kept_of, IsOpenCall, AreMutual}
use Rattle.farm_rounds.proofs.Places.Placed.{open_number}
use Rattle.farm_rounds.proofs.Failed.Acts.{known_after}
use Rattle.farm_rounds.proofs.farm.Farm.close.Goals as goal

pub close-tally-requires-clause-sound : goal.close-tally-requires-clause-sound
close-tally-requires-clause-sound c = (c.self.inside.calls.ended, c.self.invariant.0)

pub close-tally-requires-clause-fits : goal.close-tally-requires-clause-fits
close-tally-requires-clause-fits c = subst (λ (f : FarmMemory). IsOpen f.calls c.args.call) (sym c.self.view_is) c.requires

number_fits : (most : ℕ) (os : List OpenCall) (call : ℕ) (ts : List Tally) → All (IsOpenCall most) os →
    IsOpen (map kept_of os) call → length ts ≡ 4097 → call < length ts
number_fits most os call ts all isopen long = let n = open_number most os call all isopen in omega (arith, n.1, long)

pub index_mut-requires : goal.index_mut-requires
index_mut-requires c =
    let n =
    number_fits c.self.inside.calls.ended (opens_in c.self.inside.calls.open.items) c.args.call c.self.inside.calls.tallies.items c.self.invariant.0.each
    (subst (λ (f : FarmMemory). IsOpen f.calls c.args.call) (sym c.self.view_is) c.requires) c.self.invariant.1 in
    omega (arith, n)

pub invariant_of-self : goal.invariant_of-self
invariant_of-self c = (
  c.close-tally.ensures.sound c.self.inside.calls.ended c.self.invariant.0,
  length-set c.self.inside.calls.tallies.items c.args.call c.close-tally.result ∙ c.self.invariant.1,
  known_after (act.Closed c.args.call (partner_in (calls_of c.self.inside.calls.open.items) c.args.call)) c.self.inside.calls.failed.items
      (calls_of c.self.inside.calls.open.items) (calls_of c.close-tally.new.calls.items) tt c.close-tally.ensures.applied c.self.invariant.2,
)

pub returns-clause-before : goal.returns-clause-before
returns-clause-before c = subst (λ (f : FarmMemory). AreMutual f.calls) c.self.view_is c.self.invariant.0.both

pub returns-clause-applied : goal.returns-clause-applied
returns-clause-applied c =
    subst (λ (f : FarmMemory). Applied (act.Closed c.args.call (partner_in f.calls c.args.call)) f.calls (calls_of c.close-tally.new.calls.items)) c.self.view_is
    c.close-tally.ensures.applied

pub returns-clause-others : goal.returns-clause-others
returns-clause-others c =
    let tallies = set c.self.inside.calls.tallies.items c.args.call c.close-tally.result in
    ap (λ (f : FarmMemory).
    record f { calls = calls_of c.close-tally.new.calls.items; live = c.close-tally.new.live.items; tallies = tallies }) c.self.view_is

pub returns-clause-tallies : goal.returns-clause-tallies
returns-clause-tallies c d n =
    get_or-set_other c.self.inside.calls.tallies.items c.args.call d c.close-tally.result no_tally n ∙ ap (λ (f : FarmMemory). tally_in f.tallies d) c.self.view_is

pub returns-clause-tally : goal.returns-clause-tally
returns-clause-tally c x n ts now e s =
    get_or-set_same c.self.inside.calls.tallies.items c.args.call c.close-tally.result no_tally
    (number_fits c.self.inside.calls.ended (opens_in c.self.inside.calls.open.items) c.args.call c.self.inside.calls.tallies.items c.self.invariant.0.each
    (subst (λ (f : FarmMemory). IsOpen f.calls c.args.call) (sym c.self.view_is) c.requires) c.self.invariant.1)
    ∙ c.close-tally.ensures.tally x n ts now (ap (λ (f : FarmMemory). call_in f.calls c.args.call) c.self.view_is ∙ e) s
