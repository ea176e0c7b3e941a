use mathlib.Core.Path.{sym}
use Rattle.decimals.specs.Byte.{byte_past}
use Rattle.decimals.proofs.byte_at.Goals as goal

pub returns-else-at-bytes : goal.returns-else-at-bytes
returns-else-at-bytes c = sym (byte_past c.args.bytes.now c.args.at c.if-at-bytes.false)
