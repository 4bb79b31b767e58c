-- How a condition is written, in the words of the printed texts: `PP00 P=0105`, `PP00 (0302)=0007`,
-- `PP00 STOPPED`, `CM 20`, `CH05 PUT 0007`, `LOST`, `QUIET`. Numbers are octal, in as many digits
-- as are printed or in fewer.
use Rattle.std.specs.Prelude.{ℕ, ◌+◌, ◌-◌, ◌==◌, Bool, List, [], ◌∷◌, codes, drop, length, position, take, Option, None, Some, if◌then◌else◌, bytes_eq}
use Rattle.std.specs.Option.{option_map, option_or}
use Rattle.pp_deck.specs.DeckText.{Field, Fields, fields_of}
use Rattle.pp_numbers.specs.ChannelNo.{names_channel}
use Rattle.pp_numbers.specs.Profile.{has_processor}
use Rattle.pp_numbers.specs.declared.profile.Profile.{Profile}
use Rattle.pp_word.specs.Numeral.{numeral}
use Rattle.pp_condition.specs.declared.{condition.Condition.Condition, condition.EventForm.EventForm, condition.ProcessorCondition.ProcessorCondition}
use Rattle.pp_condition.specs.declared.condition.Condition.TheVariants.{Central, Channel, Lost, Quiet}
use Rattle.pp_condition.specs.declared.condition.EventForm.TheVariants.{Activate, Any, Disconnect, Function, Put, Take}
use Rattle.pp_condition.specs.declared.condition.ProcessorCondition.TheVariants.{Faults, IsHeld, StandsAt, Stops, Stores}

infixl 10 ◌>>=◌
-- one thing after another, from left to right
abbrev pub ◌>>=◌ : {A B : Type 0} → Option A → (A → Option B) → Option B
None >>= next = None
(Some x) >>= next = next x

-- ---- parts of a field

-- what follows a text at the front of a field
unfoldable pub after : List ℕ → Field → Option Field
after front field = if bytes_eq (take (length front) field) front
    then Some (drop (length front) field) else None

-- what stands before a text at its end
unfoldable pub before : List ℕ → Field → Option Field
before end field = if bytes_eq (drop (length field - length end) field) end
    then Some (take (length field - length end) field) else None

-- the number that follows a text, in at most so many octal digits
abbrev pub number_after : List ℕ → ℕ → Field → Option ℕ
number_after front most field = after front field >>= numeral 8 most

-- `(0302)`
abbrev pub place_in : Field → Option ℕ
place_in field = after (codes "(") field >>= before (codes ")") >>= numeral 8 4

-- `=` is 61 in ASCII (decimal)
abbrev pub is_equals : ℕ → Bool
is_equals byte = byte == 61

-- what stands before the first `=` of a field, and behind it, if there is one: `20`, `20=0007`
abbrev pub parts_by : Field → Option ℕ → Field × Option Field
parts_by field None = (field, None)
parts_by field (Some place) = (take place field, Some (drop (place + 1) field))

unfoldable pub parts_of : Field → Field × Option Field
parts_of field = parts_by field (position is_equals field)

-- the word that is given, of at most so many digits, if one is
abbrev pub word_given : ℕ → Option Field → Option (Option ℕ)
word_given most None = Some None
word_given most (Some field) = option_map (λ word. Some word) (numeral 8 most field)

-- ---- fields, from left to right

-- something that no further field may follow
abbrev pub alone : {A : Type 0} → A → Fields → Option A
alone x [] = Some x
alone x (field ∷ fields) = None

-- the word that ends a line, or none: ` `, `0007`
abbrev pub last_word : Fields → Option (Option ℕ)
last_word [] = Some None
last_word (field ∷ fields) = numeral 8 4 field >>= λ word. alone (Some word) fields

-- `P=0105`
unfoldable pub stands_at : Field → Option ProcessorCondition
stands_at field = option_map (λ p. StandsAt p) (number_after (codes "P=") 4 field)

-- `(0302)`, `(0302)=0007`
unfoldable pub stored : Field → Option ProcessorCondition
stored field = word_given 4 (parts_of field).1 >>= λ word.
    option_map (λ place. Stores place word) (place_in (parts_of field).0)

-- what follows `PP00`: `P=0105`, `STOPPED`, `FAULT`, `HELD`, or a place
unfoldable pub processor_condition : Field → Option ProcessorCondition
processor_condition field =
    if bytes_eq field (codes "STOPPED") then Some Stops
    else if bytes_eq field (codes "FAULT") then Some Faults
    else if bytes_eq field (codes "HELD") then Some IsHeld
    else option_or (stands_at field) (stored field)

abbrev pub on_processor : Profile → ℕ → Fields → Option Condition
on_processor profile n [] = None
on_processor profile n (field ∷ fields) = processor_condition field >>= λ does.
    if has_processor profile n then alone (Condition.Processor n does) fields else None

-- what follows `CH05`: nothing, `ACN`, `DCN`, `PUT`, `PUT 0007`, `TAK`, `FNC`
unfoldable pub event_form : Fields → Option EventForm
event_form [] = Some Any
event_form (name ∷ fields) =
    if bytes_eq name (codes "ACN") then alone Activate fields
    else if bytes_eq name (codes "DCN") then alone Disconnect fields
    else if bytes_eq name (codes "PUT") then option_map (λ word. Put word) (last_word fields)
    else if bytes_eq name (codes "TAK") then option_map (λ word. Take word) (last_word fields)
    else if bytes_eq name (codes "FNC") then option_map (λ word. Function word) (last_word fields)
    else None

abbrev pub on_channel : ℕ → Fields → Option Condition
on_channel c fields =
    if names_channel c then option_map (λ form. Channel c form) (event_form fields) else None

-- what follows `CM`: `20`, `20=00010000000000000000`
abbrev pub in_central : Fields → Option Condition
in_central [] = None
in_central (field ∷ fields) = word_given 20 (parts_of field).1 >>= λ word.
    numeral 8 6 (parts_of field).0 >>= λ address. alone (Central address word) fields

-- ---- a condition, by its fields
abbrev pub numbered : Profile → Option ℕ → Option ℕ → Fields → Option Condition
numbered profile (Some n) channel fields = on_processor profile n fields
numbered profile None (Some c) fields = on_channel c fields
numbered profile None None fields = None

unfoldable pub read_condition : Profile → Fields → Option Condition
read_condition profile [] = None
read_condition profile (field ∷ fields) =
    if bytes_eq field (codes "LOST") then alone Lost fields
    else if bytes_eq field (codes "QUIET") then alone Quiet fields
    else if bytes_eq field (codes "CM") then in_central fields
    else numbered profile (number_after (codes "PP") 2 field) (number_after (codes "CH") 2 field)
    fields

-- THE CONDITION that a text says of the steps of a machine of this profile, if it does
abbrev pub condition_in : Profile → List ℕ → Option Condition
condition_in profile text = read_condition profile (fields_of text)
