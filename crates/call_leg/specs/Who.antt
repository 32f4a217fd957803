-- A call's number and law.
use Rattle.std.specs.Prelude.{ℕ}
use Rattle.trau_alaw.specs.declared.Law.{Law}

-- its number, which seeds its noise, and the law of its octets from and to the exchange
pub record Who : Type 0 where
  pub number : ℕ
  pub law : Law
