use Rattle.std.proofs.Common.{◌/◌, ◌+◌, arith, refl}
use Rattle.fr_rpe.proofs.Room.{quiet, loud}
use Rattle.fr_rpe.proofs.maximum.coded.Goals as goal

pub returns-in-0-clause-room : goal.returns-in-0-clause-room
returns-in-0-clause-room c = quiet c.args.xmax (omega arith)

pub returns-in-1-clause-room : goal.returns-in-1-clause-room
returns-in-1-clause-room c = loud c.args.xmax (c.args.xmax / 64 + 8) 2 64 (omega arith) (omega arith) (omega arith) refl (omega arith)

pub returns-in-2-to-3-clause-room : goal.returns-in-2-to-3-clause-room
returns-in-2-to-3-clause-room c = loud c.args.xmax (c.args.xmax / 128 + 16) 3 128 (omega arith) (omega arith) (omega arith) refl (omega arith)

pub returns-in-4-to-7-clause-room : goal.returns-in-4-to-7-clause-room
returns-in-4-to-7-clause-room c = loud c.args.xmax (c.args.xmax / 256 + 24) 4 256 (omega arith) (omega arith) (omega arith) refl (omega arith)

pub returns-in-8-to-15-clause-room : goal.returns-in-8-to-15-clause-room
returns-in-8-to-15-clause-room c = loud c.args.xmax (c.args.xmax / 512 + 32) 5 512 (omega arith) (omega arith) (omega arith) refl (omega arith)

pub returns-in-16-to-31-clause-room : goal.returns-in-16-to-31-clause-room
returns-in-16-to-31-clause-room c = loud c.args.xmax (c.args.xmax / 1024 + 40) 6 1024 (omega arith) (omega arith) (omega arith) refl (omega arith)

pub returns-in_default-clause-room : goal.returns-in_default-clause-room
returns-in_default-clause-room c = loud c.args.xmax (c.args.xmax / 2048 + 48) 7 2048 (omega arith) (omega arith) (omega arith) refl (omega arith)
