use Rattle.std.proofs.Common.{◌≡◌, ℕ, ◌+◌, suc, List, drop, find, sym, ap, ◌∙◌, subst, arith}
use Rattle.farm_live.specs.declared.post.Entry.{Entry}
use Rattle.farm_live.specs.Book.{BookState, is_of_post}
use Rattle.farm_live.proofs.Books.{found_here, not_here}
use Rattle.farm_live.proofs.book.Book.find.Goals as goal

pub returns-then-is_of_post : goal.returns-then-is_of_post
returns-then-is_of_post c =
    let p = is_of_post c.args.caller c.args.number in
    let es = c.self.inside.history.items in
    let seen : es ≡ c.args.self.now.history = ap (λ (b : BookState). b.history) c.self.view_is in
    let so_far = subst (λ (l : List Entry). find p (drop c.loop-k.k l) ≡ find p l) (sym seen) c.loop-k.invariant in
    found_here p es c.loop-k.k c.index-entry.result.now
    (omega (arith, c.loop-k-test.true, c.len-k-end.ensures, c.self.inside.history.ok.0)) c.index-entry.ensures
    (sym c.if-is_of_post.ensures) so_far ∙ ap (find p) seen

pub loop-k-preserved : goal.loop-k-preserved
loop-k-preserved c =
    let p = is_of_post c.args.caller c.args.number in
    let es = c.self.inside.history.items in
    let seen : es ≡ c.args.self.now.history = ap (λ (b : BookState). b.history) c.self.view_is in
    let so_far = subst (λ (l : List Entry). find p (drop c.loop-k.k l) ≡ find p l) (sym seen) c.loop-k.invariant in
    let one : suc c.loop-k.k ≡ c.loop-k.k + 1 = omega arith in
    subst (λ (l : List Entry). find p (drop (c.loop-k.k + 1) l) ≡ find p l) seen
    (subst (λ (n : ℕ). find p (drop n es) ≡ find p es) one
    (not_here p es c.loop-k.k c.index-entry.result.now
    (omega (arith, c.loop-k-test.true, c.len-k-end.ensures, c.self.inside.history.ok.0)) c.index-entry.ensures
    (sym c.if-is_of_post.ensures) so_far))
