-- A slot cut into its channels, as a block machine (this project's profile).
use Rattle.std.specs.Prelude.{ℕ, ◌*◌, ◌/◌, ◌%◌, List, [], ◌++◌, length, take, codes, decimal}
use Rattle.std.specs.List.{concat}
use Rattle.trau_io.specs.declared.line.Side.TheVariants.{Pcm, Down}
use Rattle.block_lines.specs.Machines.{Machine}
use Rattle.trau_submux.specs.Channels.{channel}

-- the octets that make whole groups of four
abbrev pub whole_groups : List ℕ → List ℕ
whole_groups octets = take (length octets / 4 * 4) octets

-- the last line of text: how many octets of the slot were cut, and how many are left after the last whole group of four
abbrev pub split_text : ℕ → ℕ → List ℕ
split_text octets left = codes "split octets " ++ (decimal octets ++ (codes " left " ++ (decimal left ++ codes "\n")))

-- It takes every block of 160 octets, and less than a block may be left. Each of the four lines gains its channel of
-- all whole groups of four octets.
abbrev pub split_machine : Machine
split_machine = record {
  shape = record { octets = 160; from = Pcm; lines = 4; to = Down };
  takes = λ block. Unit {0};
  may_be_left = λ rest. Unit {0};
  made = λ j blocks rest. channel j (whole_groups (concat blocks ++ rest));
  printed = λ blocks rest. [];
  done_text = λ blocks rest. split_text (length (whole_groups (concat blocks ++ rest))) (length rest % 4);
  refused_text = λ n. [];
}
