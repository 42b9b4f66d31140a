use Rattle.std.proofs.Common.{rules}
use Rattle.image.proofs.Numbers.{le64_field}
use Rattle.image.proofs.row.read_row.Goals as goal

pub returns-in_err-element : goal.returns-in_err-element
returns-in_err-element g c = let amount = le64_field c.args.bytes.now c.row_start-start.result in search rules
