-- The number of the binary interface: raised by one at each change of an exported signature, a struct, an area's layout
-- or a size. The name of `cuwelfra_abi_4` follows it.
use Rattle.std.specs.Prelude.{ℕ}

abbrev pub abi : ℕ
abi = 4
