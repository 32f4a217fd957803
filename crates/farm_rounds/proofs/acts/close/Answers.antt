use Rattle.std.proofs.Common.{◌≡◌, ◌<◌, sym, ap, ◌∙◌, subst, ℕ, Option, Some, None, List, length, map, get_or, refl, arith}
use Rattle.std.specs.Prelude.{IfSome, is_some}
use Rattle.std.specs.Option.{option_and_then}
use Rattle.std.specs.Vec.{with_items}
use Rattle.std.specs.List.{remove}
use Rattle.std.specs.Global.{Box}
use Rattle.std.proofs.lemmas.List.{with_items_is}
use Rattle.switchboard.specs.declared.act.Act.TheVariants as act
use Rattle.call_leg.specs.Stands.{Stands}
use Rattle.call_pair.specs.Phases.{leg_in}
use Rattle.farm_rounds.specs.declared.open.OpenCall.{OpenCall}
use Rattle.farm_rounds.specs.Calls.{Kept, partner_in}
use Rattle.farm_rounds.specs.Acts.{Applied}
use Rattle.farm_rounds.specs.Opens.{opens_in, calls_of, kept_of, AreOpen}
use Rattle.farm_rounds.specs.Opened.{open_at, AreListed, IsReleased}
use Rattle.farm_rounds.proofs.Places.Boxes.{at_read, opens_long}
use Rattle.farm_rounds.proofs.Orders.Acts.{numbers_of, listed_open, listed_from}
use Rattle.farm_rounds.proofs.Orders.Partners.{partner_open}
use Rattle.farm_rounds.proofs.Orders.ByNumber.{remove_map}
use Rattle.farm_rounds.proofs.Places.Placed.{listed_long, call_at, leg_found}
use Rattle.farm_rounds.proofs.Orders.Close.{released_numbers, ended_applied, ended_sound, ended_same}
use Rattle.farm_rounds.proofs.acts.close.Goals as goal

pub index_of-at-requires-clause-present : goal.index_of-at-requires-clause-present
index_of-at-requires-clause-present c =
    listed_open c.deref.result.now (opens_in c.args.calls.now.items) c.args.call (c.deref.ensures.value ∙ c.requires.sound.1.listed) c.requires.fits

some_there : {P : ℕ → Type 0} (p : Option ℕ) → ((q : ℕ) → p ≡ Some q → P q) → IfSome p P
some_there None f = tt
some_there (Some q) f = f q refl

-- the partner as it is read at the call's place
partner_read : (most : ℕ) (live : List ℕ) (bs : List (Box OpenCall)) (k call : ℕ) (o : OpenCall)
    (b : Box OpenCall) → AreOpen most live (opens_in bs) → k < length live → get_or live k 0 ≡ call → o ≡ b.value → b ≡ get_or bs k b →
    o.partner ≡ partner_in (calls_of bs) call
partner_read most live bs k call o b s l own e read =
    let within : k < length bs = omega (arith, l, listed_long live (opens_in bs) s.listed, opens_long bs) in
    ap (λ (x : OpenCall). x.partner) (e ∙ ap (λ (x : Box OpenCall). x.value) read ∙ at_read bs k b within)
    ∙ sym (ap (option_and_then (λ (x : Kept). x.partner)) (call_at live bs k call s.listed s.rising l own))

pub release_partner-requires-clause-there : goal.release_partner-requires-clause-there
release_partner-requires-clause-there c =
    let s = c.requires.sound.1 in
    let bs = c.args.calls.now.items in
    let live = c.args.live.now.items in
    let k = c.index_of-at.result in
    let l = subst (λ (ns : List ℕ). k < length ns) c.deref.ensures.value c.index_of-at.ensures.within in
    let own = sym (ap (λ (ns : List ℕ). get_or ns k 0) c.deref.ensures.value) ∙ c.index_of-at.ensures.number in
    let partner = partner_read c.requires.sound.0 live bs k c.args.call _ _ s l own c.deref-2.ensures c.index.ensures in
    some_there c.deref-2.result.now.partner (λ q e.
    listed_open c.deref-3.result.now (opens_in bs) q (c.deref-3.ensures.value ∙ s.listed)
    (partner_open (calls_of bs) q c.args.call (s.both c.args.call q (sym partner ∙ e)).0))

pub release_partner-requires-clause-back : goal.release_partner-requires-clause-back
release_partner-requires-clause-back c =
    let s = c.requires.sound.1 in
    let bs = c.args.calls.now.items in
    let live = c.args.live.now.items in
    let k = c.index_of-at.result in
    let l = subst (λ (ns : List ℕ). k < length ns) c.deref.ensures.value c.index_of-at.ensures.within in
    let own = sym (ap (λ (ns : List ℕ). get_or ns k 0) c.deref.ensures.value) ∙ c.index_of-at.ensures.number in
    let partner = partner_read c.requires.sound.0 live bs k c.args.call _ _ s l own c.deref-2.ensures c.index.ensures in
    some_there c.deref-2.result.now.partner (λ q e.
    ap is_some
    (ap (λ (xs : List (Box OpenCall)). partner_in (calls_of xs) q) c.deref_mut.ensures.value ∙ (s.both c.args.call q (sym partner ∙ e)).0))

pub release_partner-requires-clause-listed : goal.release_partner-requires-clause-listed
release_partner-requires-clause-listed c =
    let s = c.requires.sound.1 in
    let bs = c.args.calls.now.items in
    subst (λ (ns : List ℕ). AreListed ns (opens_in c.deref_mut.result.now)) (sym c.deref-3.ensures.value)
    (subst (λ (xs : List (Box OpenCall)). AreListed c.args.live.now.items (opens_in xs)) (sym c.deref_mut.ensures.value)
    (listed_from c.requires.sound.0 c.args.live.now.items (opens_in bs) s.listed s.rising s.each))

-- what is known once the partner is free
module _ (c : goal.After-drop-closed) where
  abbrev bs : List (Box OpenCall)
  bs = c.args.calls.now.items

  abbrev released_boxes : List (Box OpenCall)
  released_boxes = c.release_partner.new.calls

  abbrev live : List ℕ
  live = c.args.live.now.items

  abbrev k : ℕ
  k = c.index_of-at.result

  l : k < length live
  l = subst (λ (ns : List ℕ). k < length ns) c.deref.ensures.value c.index_of-at.ensures.within

  own : get_or live k 0 ≡ c.args.call
  own = sym (ap (λ (ns : List ℕ). get_or ns k 0) c.deref.ensures.value) ∙ c.index_of-at.ensures.number

  free : IsReleased (partner_in (calls_of bs) c.args.call) (opens_in bs) (opens_in released_boxes)
  free =
      subst (λ (p : Option ℕ). IsReleased p (opens_in bs) (opens_in released_boxes))
      (partner_read c.requires.sound.0 live bs k c.args.call _ _ c.requires.sound.1 l own c.deref-2.ensures c.index.ensures)
      (subst (λ (xs : List (Box OpenCall)). IsReleased c.deref-2.result.now.partner (opens_in xs) (opens_in released_boxes)) c.deref_mut.ensures.value c.release_partner.ensures)

  items : (with_items c.args.calls.now released_boxes).items ≡ released_boxes
  items = with_items_is c.args.calls.now released_boxes (c.release_partner.auto.calls ∙ c.deref_mut.ensures.len)

  opens_now : opens_in c.remove-closed.new.self.items ≡ remove (opens_in released_boxes) k
  opens_now =
      ap opens_in (c.remove-closed.ensures.items ∙ ap (λ (xs : List (Box OpenCall)). remove xs k) items)
      ∙ remove_map (λ (b : Box OpenCall). b.value) released_boxes k

  same : live ≡ numbers_of (opens_in released_boxes)
  same = c.requires.sound.1.listed ∙ sym (released_numbers (partner_in (calls_of bs) c.args.call) (opens_in bs) (opens_in released_boxes) free)

  read : c.deref-4.result.now ≡ open_at released_boxes k
  read =
      c.deref-4.ensures
      ∙ ap (λ (b : Box OpenCall). b.value)
      (c.remove-closed.ensures.value ∙ ap (λ (xs : List (Box OpenCall)). get_or xs k c.remove-closed.result) items)
      ∙ at_read released_boxes k c.remove-closed.result (omega (arith, l, listed_long live (opens_in released_boxes) same, opens_long released_boxes))

pub returns-clause-applied : goal.returns-clause-applied
returns-clause-applied c =
    let s = c.requires.sound.1 in
    subst (λ (os : List OpenCall). Applied (act.Closed c.args.call (partner_in (calls_of (bs c)) c.args.call)) (calls_of (bs c)) (map kept_of os))
    (sym (opens_now c))
    (ended_applied (live c) (k c) c.args.call (l c) (own c) (opens_in (bs c)) (opens_in (released_boxes c)) s.listed s.rising s.both (free c))

pub returns-clause-sound : goal.returns-clause-sound
returns-clause-sound c most t =
    let s = c.requires.sound.1 in
    subst (λ (os : List OpenCall). AreOpen most c.remove.new.self.items os) (sym (opens_now c))
    (subst (λ (ns : List ℕ). AreOpen most ns (remove (opens_in (released_boxes c)) (k c))) (sym c.remove.ensures.items)
    (ended_sound (live c) (k c) c.args.call (l c) (own c) (opens_in (bs c)) (opens_in (released_boxes c)) s.listed s.rising s.both (free c)
    c.requires.fits most t))

pub returns-clause-tally : goal.returns-clause-tally
returns-clause-tally c x who ts now e st =
    let s = c.requires.sound.1 in
    let before = ended_same (live c) (k c) c.args.call (l c) (own c) (opens_in (bs c)) (opens_in (released_boxes c)) s.listed s.rising s.both (free c) in
    let leg = leg_found (calls_of (bs c)) c.args.call (kept_of (open_at (released_boxes c) (k c))) x
    (sym before ∙ call_at (live c) (released_boxes c) (k c) c.args.call (same c) s.rising (l c) (own c)) e in
    c.tally.ensures who ts now (subst (Stands who ts now) (leg ∙ sym (ap (λ (o : OpenCall). leg_in o.job) (read c))) st)
