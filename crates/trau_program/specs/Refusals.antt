-- A program that can't start: its status and its text (this project's profile).
use Rattle.std.specs.Prelude.{ℕ, List, codes}
use Rattle.trau_program.specs.declared.Refusal.{Refusal}
use Rattle.trau_program.specs.declared.Refusal.TheVariants.{NotText, NoMemory}

abbrev pub status_of : Refusal → ℕ
status_of NotText = 1
status_of NoMemory = 5

abbrev pub text_of : Refusal → List ℕ
text_of NotText = codes "usage\n"
text_of NoMemory = codes "no memory\n"
