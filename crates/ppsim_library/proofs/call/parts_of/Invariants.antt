use Rattle.std.proofs.Common.{◌≡◌, ◌++◌, length, map}
use denote.Text.{Utf8}
use denote.Shadow.{shadow}
use Rattle.ppsim_library.specs.Answered.{parts_of}
use Rattle.ppsim_library.proofs.call.parts_of.Given as goal

abbrev pub invariant-loop-word : goal.invariant-loop-word
invariant-loop-word g l = shadow (Utf8 l.rest) × (map (λ word. word.now) l.words.items ++ parts_of l.rest ≡ parts_of l.fn.text)

abbrev pub decreases-loop-word : goal.decreases-loop-word
decreases-loop-word g l = length l.rest
