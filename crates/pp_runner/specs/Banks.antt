-- The banks of central memory under locks: 32 of them with 4,096 words each (decimal), which have
-- room for central memory of any size. (Only private contracts cite this.)
use Rattle.std.specs.Prelude.{◌≡◌, ◌<◌, ◌+◌, ◌*◌, ℕ}

-- The word of this address stands in this bank, at this place: neighbours stand in different banks.
pub record StandsAt (address bank place : ℕ) : Type 0 where
  pub bank_is_one : bank < 32
  pub address_is : 32 * place + bank ≡ address
