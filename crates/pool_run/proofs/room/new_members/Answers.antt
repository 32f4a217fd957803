use Rattle.std.proofs.Common.{ℕ, All, length, sym, subst, ap, arith}
use Rattle.trau_num.proofs.Lists.{each_snoc}
use Rattle.pool_run.specs.declared.member.Member.{Member}
use Rattle.pool_run.specs.Room.{IsNew}
use Rattle.pool_run.proofs.room.new_members.Goals as goal

pub loop-me-init : goal.loop-me-init
loop-me-init g c = let made = c.in_ok-members.ensures in record {
  new = λ k m h. absurd (omega (arith, ap length made.items, h));
  len = made.len;
  capacity = made.capacity;
}

pub push_reserved-requires : goal.push_reserved-requires
push_reserved-requires g c = let old = c.loop-me.invariant in omega (arith, old.len, old.capacity)

pub loop-me-preserved : goal.loop-me-preserved
loop-me-preserved g c = let old = c.loop-me.invariant in let pushed = c.push_reserved.ensures in record {
  new = subst (All (IsNew c.args.most)) (sym pushed.items)
      (each_snoc (λ (k : ℕ) (m : Member g.row.W.Denot). IsNew c.args.most m) c.loop-me.members.items c.in_ok-member.member old.new c.in_ok-member.ensures);
  len = omega (arith, old.len, pushed.len);
  capacity = omega (arith, old.capacity, pushed.capacity);
}

pub returns : goal.returns
returns g c = let done = c.loop-me.invariant in record { new = done.new; len = omega (arith, done.len, c.loop-me-test.false, c.loop-me.auto.me-end) }
