use Rattle.std.proofs.Common.{◌≡◌, refl, ℕ, length, get_or, sym, ◌∙◌, subst, arith}
use Rattle.pool_run.specs.Member.{IsPassFor}
use Rattle.pool_run.specs.Room.{IsRow, IsUnused}
use Rattle.pool_run.proofs.Rooms.{no_row, row_more}
use Rattle.pool_run.proofs.room.row_of.Goals as goal

pub loop-k-init : goal.loop-k-init
loop-k-init g c = record {
  unused = c.requires.unused;
  row = subst (IsRow c.args.thieves.now) (sym c.in_ok-row.ensures.items) (no_row g.W.Work.finish c.args.thieves.now);
  len = c.in_ok-row.ensures.len;
  capacity = omega (arith, c.in_ok-row.ensures.capacity);
  rows = λ i. refl;
  room = λ most left. left;
}

pub cut_at-pass-requires-clause-unused : goal.cut_at-pass-requires-clause-unused
cut_at-pass-requires-clause-unused g c = c.loop-k.invariant.unused

pub push_reserved-requires : goal.push_reserved-requires
push_reserved-requires g c = let old = c.loop-k.invariant in omega (arith, old.len, old.capacity)

pub loop-k-preserved : goal.loop-k-preserved
loop-k-preserved g c =
    let old = c.loop-k.invariant in
    let thieves = c.args.thieves.now in
    let len : length c.loop-k.row.items ≡ c.loop-k.k = omega (arith, old.len, c.loop-k.row.ok.0) in record {
      unused = c.cut_at-pass.ensures.unused;
      row = subst (IsRow thieves) (sym c.push_reserved.ensures.items)
          (row_more g.W.Work.finish thieves c.loop-k.row.items c.cut_at-pass.result old.row
          (λ t. subst (λ (n : ℕ). IsPassFor (get_or thieves n t) c.cut_at-pass.result) (sym len)
          (c.cut_at-pass.ensures.pass t)) c.cut_at-pass.ensures.obtained);
      len = omega (arith, old.len, c.push_reserved.ensures.len);
      capacity = omega (arith, old.capacity, c.push_reserved.ensures.capacity);
      rows = λ i. c.cut_at-pass.ensures.rows i ∙ old.rows i;
      room = λ most left. c.cut_at-pass.ensures.room most (old.room most left);
    }

pub returns : goal.returns
returns g c =
    let done = c.loop-k.invariant in
    let all : c.loop-k.k ≡ length c.args.thieves.now = omega (arith, c.loop-k-test.false, c.loop-k.auto.k-end, c.requires.unused.shared.pair) in record {
      unused = subst (IsUnused g.W.Work.finish c.args.thieves.now c.loop-k.members) all done.unused;
      row = (done.row, done.len ∙ all);
      rows = done.rows;
      room = done.room;
    }
