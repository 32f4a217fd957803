use Rattle.std.proofs.Common.{length, ap, arith, rules}
use Rattle.farm_live.specs.Book.{BookState}
use Rattle.farm_live.proofs.book.Book.post.Goals as goal

pub returns-then-len-capacity-clause-full : goal.returns-then-len-capacity-clause-full
returns-then-len-capacity-clause-full c = λ _. (
  search rules,
  omega (
    arith,
    c.if-len-capacity.true,
    c.len.ensures.len,
    c.capacity.ensures.capacity,
    c.self.invariant.3,
    ap (λ (b : BookState). length b.inbox) c.self.view_is,
    ap (λ (b : BookState). b.is_of.room) c.self.view_is,
  ),
)
