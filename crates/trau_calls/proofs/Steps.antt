-- What the walks over a handle share.
use Rattle.std.proofs.Common.{◌≡◌, refl, sym, subst}
use Rattle.std.specs.Prelude.{ℕ, zero, suc, ◌≢◌, Option, Some, None}
use Rattle.rtp_call.specs.declared.call.Call.{Call}
use Rattle.rtp_call.specs.Call.{IsReady}
use Rattle.trau_calls.specs.Begun.{IsBegun, FromTo}
use mir.Syntax.{Dict, impl, tnil, dnil}
use mathlib.Core.List.{[]}
use Rattle.std.specs.contracts.impls.GlobalAllocator.TheImpl.{ghosts}
use Rattle.std.specs.contracts.alloc.Global.{the_row as G}
use Rattle.rtp_call.specs.contracts.call.Call.{the_row as C}
use Rattle.rtp_call.proofs.call.Call.TheLaws as of_call
use Rattle.std.proofs.alloc.Global.TheLaws as of_global
use Rattle.std_alloc.proofs.BoxSteps.Form.{Bx}
use Rattle.std.proofs.alloc.Calls.{Fits}
use Rattle.std.specs.Global.{Global}
use mir.Val.{Val}

abbrev unused : Dict
unused = impl [] tnil dnil

abbrev pub boxed : Bx
boxed = record { row = C; laws = of_call.the_row_laws; al = record { row = G; laws = of_global.the_row_laws; g = ghosts; d = unused; drops = unused } }

pub record Is (m : Option Call) : Type 0 where
  pub call : Call
  pub is : m ≡ Some call
  pub ready : IsReady call

pub is_begun : (m : Option Call) → IsBegun m → Is m
is_begun None begun = absurd begun
is_begun (Some call) begun = record { call = call; is = refl; ready = begun }

abbrev pub word-of : Global → Val
word-of g = of_global.lowers.lowered g

pub global-fits : (g : Global) → Fits boxed.al (word-of g)
global-fits g = (tt, ((tt, tt), tt))

-- a fact of a call before and after it is one of the handle that has it
pub from_to : (m n : Option Call) (old new : Call) (holds : Call → Call → Type 0) → m ≡ Some old → n ≡ Some new → holds old new → FromTo m n holds
from_to m n old new holds p q h = subst (λ k. FromTo k n holds) (sym p) (subst (λ k. FromTo (Some old) k holds) (sym q) h)

-- a number that isn't 0 is another one's successor
pub by_suc : (holds : ℕ → Type 0) (n : ℕ) → n ≢ 0 → ((m : ℕ) → holds (suc m)) → holds n
by_suc holds zero other h = absurd (other refl)
by_suc holds (suc m) other h = h m
