-- What C says of a call before it begins.
use Rattle.std.specs.Prelude.{ℕ, zero, suc, ◌%◌, ◌^◌, Bool, true, false}
use Rattle.trau_alaw.specs.declared.Law.{Law}
use Rattle.trau_alaw.specs.declared.Law.TheVariants.{A, Mu}
use Rattle.rtp_call.specs.declared.call.Settings.{Settings}
use Rattle.trau_calls.specs.declared.begin.CallSettings.{CallSettings}

-- 0: A-law; any other number: mu-law
abbrev pub law_of : ℕ → Law
law_of zero = A
law_of (suc other) = Mu

-- 0: no
abbrev pub flag_of : ℕ → Bool
flag_of zero = false
flag_of (suc other) = true

abbrev pub settings_of : CallSettings → Settings
settings_of said = record {
  number = said.number % 2 ^ 16;
  law = law_of said.law;
  depth = said.depth;
  prime = flag_of said.prime;
  gsm = said.gsm;
  pcm = said.pcm;
}
