use Rattle.std.proofs.Common.{◌≡◌, ◌≢◌, ◌<◌, ◌≤◌, ℕ, length, ap, ◌∙◌, subst, ⊎_elim, arith}
use Rattle.std.proofs.lemmas.Bool.{cases_lt}
use Rattle.pool_run.specs.Pool.{passes_of}
use Rattle.pool_run.proofs.room.give_rows.Goals as goal

pub loop-me-init : goal.loop-me-init
loop-me-init g c = record {
  unused = c.requires.unused;
  mine = λ i h. absurd (omega (arith, h));
  others = λ i h. c.requires.none i;
  room = λ most left. left;
}

pub loop-me-preserved : goal.loop-me-preserved
loop-me-preserved g c =
    let old = c.loop-me.invariant in
    let me = c.loop-me.me in
    let ms = c.give_row.new.members in
    let same : (i : ℕ) → i ≢ me → passes_of ms i ≡ passes_of c.loop-me.members i = λ i ne. c.give_row.ensures.rows i ne ∙ c.row_of.ensures.rows i in record {
      unused = c.give_row.ensures.unused;
      mine = λ i h. ⊎_elim (λ (lt : i < me). ap length (same i (λ e. absurd (omega (arith, e)))) ∙ old.mine i lt)
          (λ (le : me ≤ i). let e : me ≡ i = omega arith in subst (λ (j : ℕ). length (passes_of ms j) ≡ length c.args.thieves.now) e c.give_row.ensures.mine)
          (cases_lt i me);
      others = λ i h. same i (λ e. absurd (omega (arith, e))) ∙ old.others i (omega arith);
      room = λ most left. c.give_row.ensures.room most (c.in_ok-row.ensures.room most (old.room most left));
    }

pub row_of-requires-clause-unused : goal.row_of-requires-clause-unused
row_of-requires-clause-unused g c = c.loop-me.invariant.unused

pub give_row-requires-clause-unused : goal.give_row-requires-clause-unused
give_row-requires-clause-unused g c = c.in_ok-row.ensures.unused

pub give_row-requires-clause-none : goal.give_row-requires-clause-none
give_row-requires-clause-none g c = c.row_of.ensures.rows c.loop-me.me ∙ c.loop-me.invariant.others c.loop-me.me (omega arith)

pub give_row-requires-clause-row : goal.give_row-requires-clause-row
give_row-requires-clause-row g c = c.in_ok-row.ensures.row

pub returns : goal.returns
returns g c =
    let done = c.loop-me.invariant in record {
      unused = done.unused;
      rows = λ i h. done.mine i (omega (arith, h, c.loop-me-test.false));
      room = done.room;
    }
