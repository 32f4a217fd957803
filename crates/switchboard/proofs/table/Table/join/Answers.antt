use Rattle.std.proofs.Common.{◌<◌, ◌∙◌, ℕ, List, Some, length, set, refl, sym, ap, subst, arith}
use Rattle.std.proofs.lemmas.List.{get_or_read, length-set}
use Rattle.switchboard.specs.declared.table.Call.{Call}
use Rattle.switchboard.specs.Rows.{Rows, never, bridged_in}
use Rattle.switchboard.proofs.Tables.Sizes.{joined_sized, joined_rows}
use Rattle.switchboard.proofs.table.Table.join.Goals as goal

pub index_mut-requires : goal.index_mut-requires
index_mut-requires c = subst (λ (n : ℕ). c.args.a < n) (sym (c.self.inside.calls.ok.0 ∙ c.self.invariant.0.all)) c.requires.a

pub push_reserved-requires : goal.push_reserved-requires
push_reserved-requires c = omega (
  arith,
  c.self.invariant.1,
  c.self.inside.bridges.ok.0,
  ap (λ (r : Rows). length r.bridges) c.self.view_is,
  ap
      (λ (r : Rows). r.most) c.self.view_is,
  c.requires.room,
)

pub invariant_of-self : goal.invariant_of-self
invariant_of-self c = (
  joined_sized c.self.inside.calls.items c.self.inside.bridges.items _ c.args.a c.args.b c.len-place.result _ _ _ c.self.invariant.0 (c.len-place.ensures
      ∙ c.self.inside.bridges.ok.0) refl refl (c.requires.a, c.requires.b) c.push_reserved.ensures.items,
  omega (arith, c.self.invariant.1, c.push_reserved.ensures.capacity),
  c.self.invariant.2,
)

pub returns : goal.returns
returns c =
    let i = c.self.inside in
    let sized = c.self.invariant.0.all in
    let place = c.len-place.ensures ∙ i.bridges.ok.0 in
    let first = get_or_read i.calls.items c.args.a _ (subst (λ (n : ℕ). c.args.a < n) (sym sized) c.requires.a) c.index_mut.ensures.value never in
    let with_first : List Call = set i.calls.items c.args.a (record c.index_mut.result.now { bridge = Some c.len-place.result }) in
    let second = get_or_read with_first c.args.b _ (subst (λ (n : ℕ). c.args.b < n) (sym (length-set i.calls.items c.args.a _ ∙ sized)) c.requires.b)
    c.index_mut-2.ensures.value never in
    joined_rows i.calls.items i.bridges.items _ i.spans.items i.most c.args.stamp c.args.a c.args.b c.len-place.result _ _ place first second
    c.push_reserved.ensures.items
    ∙ ap (λ (r : Rows). bridged_in r c.args.stamp c.args.a c.args.b) c.self.view_is
