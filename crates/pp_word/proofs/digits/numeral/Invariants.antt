use Rattle.std.proofs.Common.{◌≡◌, ◌<◌, ◌^◌, true, take}
use Rattle.std.specs.List.{list_all}
use Rattle.pp_word.specs.Numeral.{is_digit, value_of}
use Rattle.pp_word.proofs.digits.numeral.Given as goal

abbrev pub invariant-loop-character : goal.invariant-loop-character
invariant-loop-character l = record {
  value : l.value ≡ value_of l.base (take l.character-index l.field);
  digits : list_all (is_digit l.base) (take l.character-index l.field) ≡ true;
  small : l.value < l.base ^ l.character-index;
}
