use Rattle.std.proofs.Common.{◌≡◌, List, ◌<◌, ◌∙◌, ℕ, All, length, drop, sym, subst, ap, arith}
use Rattle.trau_num.proofs.Lists.{written_back}
use Rattle.pool_run.specs.declared.member.Member.{Member}
use Rattle.pool_run.specs.Member.{Thief}
use Rattle.pool_run.specs.Room.{IsRoom, IsNew, IsUnused, RoomLeft}
use Rattle.pool_run.proofs.Rooms.{no_passes, new_left, unused_room}
use Rattle.pool_run.proofs.room.new_pool.Goals as goal

pub new_thieves-requires : goal.new_thieves-requires
new_thieves-requires g c = (c.args.most, subst (All (IsNew c.args.most)) (sym c.as_slice.ensures.value) c.in_ok-members.ensures.new)

pub give_rows-requires-clause-unused : goal.give_rows-requires-clause-unused
give_rows-requires-clause-unused g c =
    subst (λ (us : List (Thief g.row.W.Denot)). IsUnused g.W.Work.finish us c.as_mut_slice.result.now 0) (sym c.as_slice-2.ensures.value)
    (subst (λ (ms : List (Member g.row.W.Denot)). IsUnused g.W.Work.finish c.in_ok-thieves.thieves.items ms 0)
    (c.as_slice.ensures.value ∙ sym c.as_mut_slice.ensures.value) c.in_ok-thieves.ensures)

pub give_rows-requires-clause-none : goal.give_rows-requires-clause-none
give_rows-requires-clause-none g c =
    no_passes c.args.most c.as_mut_slice.result.now (subst (All (IsNew c.args.most)) (sym c.as_mut_slice.ensures.value) c.in_ok-members.ensures.new)

pub returns : goal.returns
returns g c =
    let finish = g.W.Work.finish in
    let ms = c.give_rows.new.members in
    let ts = c.in_ok-thieves.thieves.items in
    let len : length ms ≡ c.in_ok-members.members.len = c.give_rows.auto.members ∙ c.as_mut_slice.ensures.len in
    let back = written_back ms (drop (length ms) c.in_ok-members.members.items) c.in_ok-members.members.len len in
    let some : 0 < length ms = omega (arith, len, c.in_ok-members.ensures.len, c.requires.some) in
    let unused = subst (λ (us : List (Thief g.row.W.Denot)). IsUnused finish us ms 0) c.as_slice-2.ensures.value c.in_ok-give_rows.ensures.unused in
    let left =
    c.in_ok-give_rows.ensures.room c.args.most (subst (RoomLeft 0 c.args.most) (sym c.as_mut_slice.ensures.value)
    (new_left finish c.in_ok-members.members.items c.args.most c.in_ok-members.ensures.new)) in
    let full = λ (i : ℕ) (h : i < length ms).
    c.in_ok-give_rows.ensures.rows i (omega (arith, c.give_rows.auto.members)) ∙ ap length c.as_slice-2.ensures.value in
    subst (λ (ns : List (Member g.row.W.Denot)). IsRoom finish c.args.most ts ns) (sym back) (unused_room finish ts ms unused full some c.args.most left)
