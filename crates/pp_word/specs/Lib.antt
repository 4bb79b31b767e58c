pub mod Address
pub mod Bits
pub mod CentralWord
pub mod OnesComplement
pub mod Opcode
pub mod Numeral
