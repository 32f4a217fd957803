use Rattle.std.proofs.Common.{◌≡◌, ℕ, length, get_or, sym, subst, ap, arith}
use Rattle.pool_run.proofs.Rooms.{AreThieves, thief_more, new_unused}
use Rattle.pool_run.proofs.room.new_thieves.Goals as goal

pub loop-member-init : goal.loop-member-init
loop-member-init g c = let made = c.in_ok-thieves.ensures in record {
  are = λ k t h m. absurd (omega (arith, ap length made.items, h));
  len = made.len;
  capacity = omega (arith, made.capacity);
}

pub push_reserved-requires : goal.push_reserved-requires
push_reserved-requires g c = let old = c.loop-member.invariant in omega (arith, old.len, old.capacity, c.loop-member-test.true)

pub loop-member-preserved : goal.loop-member-preserved
loop-member-preserved g c =
    let old = c.loop-member.invariant in
    let pushed = c.push_reserved.ensures in
    let ms = c.args.members.now in
    let m = c.member-item.result in
    let len : c.loop-member.member-index ≡ length c.loop-member.thieves.items = omega (arith, old.len, c.loop-member.thieves.ok.0) in record {
      are = subst (AreThieves ms) (sym pushed.items)
          (thief_more ms c.loop-member.thieves.items m c.in_ok-thief.thief old.are (omega (arith, len, c.loop-member-test.true))
          (subst (λ (k : ℕ). m ≡ get_or ms k m) len c.member-item.is) c.in_ok-thief.ensures);
      len = omega (arith, old.len, pushed.len);
      capacity = omega (arith, old.capacity, pushed.capacity);
    }

pub returns : goal.returns
returns g c =
    let done = c.loop-member.invariant in
    new_unused g.W.Work.finish c.args.members.now c.requires.0 c.requires.1 c.loop-member.thieves.items
    (omega (arith, done.len, c.loop-member.thieves.ok.0, c.loop-member-test.false, c.loop-member.auto.member-index-end)) done.are
