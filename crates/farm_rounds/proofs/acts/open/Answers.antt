use Rattle.std.proofs.Common.{rules, ◌≡◌, ◌<◌, ◌≤◌, sym, ap, ◌∙◌, subst, ℕ, List, length, map, slice_index}
use Rattle.std.specs.List.{insert}
use Rattle.std.specs.Global.{Box}
use Rattle.switchboard.specs.declared.act.Act.TheVariants as act
use Rattle.farm_rounds.specs.declared.open.OpenCall.{OpenCall}
use Rattle.farm_rounds.specs.Numbers.{IsRising, is_among}
use Rattle.farm_rounds.specs.Acts.{Applied}
use Rattle.farm_rounds.specs.Opens.{opens_in, calls_of, kept_of, new_open, AreOpen}
use Rattle.farm_rounds.proofs.Orders.Acts.{among_open}
use Rattle.farm_rounds.proofs.Orders.ByNumber.{insert_map}
use Rattle.farm_rounds.proofs.Orders.Open.{opened_applied, opened_sound}
use Rattle.farm_rounds.proofs.acts.open.Goals as goal

pub insertion_index-at-requires-clause-absent : goal.insertion_index-at-requires-clause-absent
insertion_index-at-requires-clause-absent c =
    ap (λ (ns : List ℕ). is_among ns c.args.call) (c.deref.ensures.value ∙ c.reserve.ensures.items ∙ c.requires.sound.1.listed)
    ∙ among_open (opens_in c.args.calls.now.items) c.args.call ∙ c.requires.fits.0

pub insertion_index-at-requires-clause-rising : goal.insertion_index-at-requires-clause-rising
insertion_index-at-requires-clause-rising c = subst IsRising (sym (c.deref.ensures.value ∙ c.reserve.ensures.items)) c.requires.sound.1.rising

-- a box is put in
put_opens : (bs cs : List (Box OpenCall)) (at : ℕ) (b : Box OpenCall) (o : OpenCall) → cs ≡ insert bs at b → b.value ≡ o →
    opens_in cs ≡ insert (opens_in bs) at o
put_opens bs cs at b o e is = ap opens_in e ∙ insert_map (λ (x : Box OpenCall). x.value) bs at b ∙ ap (insert (opens_in bs) at) is

calls_now : (c : goal.Joined-insert) → c.insert-2.new.self.items ≡ insert c.args.calls.now.items c.insertion_index-at.result c.in_ok-opened.opened
calls_now c = search rules

abbrev AreLines : List ℕ → ℕ → ℕ → Type 0
AreLines ns at n = (at ≤ length ns) × ((k : ℕ) → k < at → slice_index ns k < n) × ((k : ℕ) → at ≤ k → k < length ns → n < slice_index ns k)

pub returns-clause-applied : goal.returns-clause-applied
returns-clause-applied c =
    let bs = c.args.calls.now.items in
    let at = c.insertion_index-at.result in
    let p = subst (λ (ns : List ℕ). AreLines ns at c.args.call) (c.deref.ensures.value ∙ c.reserve.ensures.items)
    (c.insertion_index-at.ensures.within, c.insertion_index-at.ensures.below, c.insertion_index-at.ensures.above) in
    subst (λ (os : List OpenCall). Applied (act.Opened c.args.call c.args.law) (calls_of bs) (map kept_of os))
    (sym (put_opens bs c.insert-2.new.self.items at c.in_ok-opened.opened _ (calls_now c) c.in_ok-opened.ensures))
    (opened_applied c.args.live.now.items (opens_in bs) at c.args.call c.args.law c.requires.sound.1.listed c.requires.fits p.0 p.1)

pub returns-clause-sound : goal.returns-clause-sound
returns-clause-sound c most s =
    let bs = c.args.calls.now.items in
    let at = c.insertion_index-at.result in
    let live_now : c.insert.new.self.items ≡ insert c.args.live.now.items at c.args.call = search rules in
    let p = subst (λ (ns : List ℕ). AreLines ns at c.args.call) (c.deref.ensures.value ∙ c.reserve.ensures.items)
    (c.insertion_index-at.ensures.within, c.insertion_index-at.ensures.below, c.insertion_index-at.ensures.above) in
    subst (λ (os : List OpenCall). AreOpen most c.insert.new.self.items os)
    (sym (put_opens bs c.insert-2.new.self.items at c.in_ok-opened.opened _ (calls_now c) c.in_ok-opened.ensures))
    (subst (λ (ns : List ℕ). AreOpen most ns (insert (opens_in bs) at (new_open c.args.call c.args.law))) (sym live_now)
    (opened_sound c.args.live.now.items (opens_in bs) at c.args.call c.args.law c.requires.sound.1.listed c.requires.fits p.0 p.1 p.2 most s))
