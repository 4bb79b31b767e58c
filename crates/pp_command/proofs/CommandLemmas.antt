-- From what clap ensures of a parse to what the words ask for.
use Rattle.std.proofs.Common.{◌≡◌, ◌∙◌, ℕ, ◌+◌, ◌-◌, ◌<◌, ◌≤◌, add-one, arith, drop, drop-cons, fold, get_or, length, map, Bool, true, false, not, IsTrue, List, [], Option, Some, None, option_map, sym, refl, inl, inr, codes}
use Rattle.std.specs.Prelude.{Box, ◌≢◌, ◌↔◌}
use Rattle.std.specs.Bool.{then_some}
use Rattle.std.specs.Box.{box_value}
use Rattle.clap.specs.Words.{App, HasKind, IsAmong, Kinds, Text, Row, fault_of, is_simple_and_free, kind_of, rows_of, subcommand_of, subcommand_rows, subcommand_rows_of, subcommand_name_of}
use Rattle.clap.specs.declared.{error.Error.Error, parser.matches.Found.Found, parser.matches.SubCommand.SubCommand, parser.matches.ArgMatches.ArgMatches, parser.matches.ArgMatches.TheViews.out-ArgMatches, parser.matches.ArgMatches.TheViews.out-SubCommand}
use Rattle.clap.specs.declared.error.kind.ErrorKind.TheVariants.{OutOfMemory}
use Rattle.pp_numbers.specs.declared.{window.Window.Window, profile.Profile.Profile}
use Rattle.pp_command.specs.CommandLine.{Finds, IsFaultBy, IsRefused, IsWorkOf, ReadsAlike, AsksForMore, AsksForText, AsksForView, ReadsRun, ReadsChannels, ReadsChosen, ReadsEnd, ReadsNumber, ReadsTurn, ReadsTurns, ReadsWindow, ppsim, refusals}
use Rattle.pp_command.specs.declared.{line_fault.LineFault.LineFault, work.Work.Work, text_of.TextOf.TextOf, view.View.View, command_kind.CommandKind.CommandKind}
use Rattle.pp_command.specs.declared.command_kind.CommandKind.TheVariants as Kind
use Rattle.pp_command.specs.declared.line_fault.LineFault.TheVariants.{Forms, Memory, Refused, Number, Picture}

-- a parse that succeeds has no refusal
pub taken_words : (words : List Text) (app : App) → ReadsAlike words app → (is_simple_and_free app ≡ true → fault_of app words ≡ []) → refusals words ≡ []
unfolding refusals
taken_words words app alike h = sym alike.fault ∙ h alike.free

among : (kinds : Kinds) (error : Error) → HasKind kinds error → kind_of error ≢ OutOfMemory → IsAmong (kind_of error) kinds
among kinds error (inl memory) other = absurd (other memory)
among kinds error (inr kind) other = kind

-- one that fails for another cause than memory fails by one of the refusals
pub refused_words : (words : List Text) (app : App) (error : Error) (fault : LineFault) → ReadsAlike words app → (is_simple_and_free app ≡ true → HasKind (fault_of app words) error)
    → IsFaultBy error fault → IsRefused words fault
unfolding refusals
refused_words words app error Memory alike h by = tt
refused_words words app error (Refused told) alike h by = grind (arith, among)
refused_words words app error Number alike h by = absurd by
refused_words words app error Picture alike h by = absurd by
refused_words words app error Forms alike h by = absurd by

pair_of : {Z : Type 0} (o : Option (Box SubCommand Z)) (name : Text) (rows : List Row) → Some name ≡ option_map (λ b. (out-SubCommand (box_value b)).name.now) o → Some rows ≡ option_map (λ p. p.1) (subcommand_rows o) → subcommand_rows o ≡ Some (name, rows)
pair_of None name rows e h = cc
pair_of (Some x) name rows e h = grind arith

-- the command that a parse met, by the words
pub met_command : (words : List Text) (m : ArgMatches) (name : Text) (f : Found) → subcommand_of ppsim words ≡ subcommand_rows_of m
    → Some name ≡ subcommand_name_of m → Some (rows_of f) ≡ option_map (λ p. p.1) (subcommand_rows_of m)
    → subcommand_of ppsim words ≡ Some (name, rows_of f)
met_command words m name f met e k = met ∙ pair_of (out-ArgMatches m).subcommand name (rows_of f) e k

-- ---- options and commands, one by one

pub add_next : {X E Y : Type 0} (add : X → Y → X) (of : E → Y) (x next : X) (forms : List E) (i : ℕ) (d : E) → i < length forms → next ≡ add x (of (get_or forms i d))
    → fold add x (map of (drop i forms)) ≡ fold add next (map of (drop (i + 1) forms))
add_next add of x next forms i d lt e = rw (e, drop-cons forms i d lt, add-one i) refl

-- ---- options that say one window alone

one_number : (text : Option Text) (n m : ℕ) → ReadsNumber text n → ReadsNumber text m → n ≡ m
one_number None n m one also = absurd one
one_number (Some text) n m one also = one.1 ∙ sym also.1

one_turn : (default : ℕ) (text : Option Text) (n m : ℕ) → ReadsTurn default text n → ReadsTurn default text m → n ≡ m
one_turn default None n m one also = one ∙ sym also
one_turn default (Some text) n m one also = one_number (Some text) n m one.0 also.0

end_turn : (text : Option Text) (turns others to : ℕ) → turns ≡ others → turns ≤ 999999 → ReadsEnd others text to → ReadsTurn turns text to
end_turn None turns others to same most k = k ∙ sym same
end_turn (Some text) turns others to same most k = (k.0, omega (arith, k.1, same, most))

one_length : (value_of : Text → Option Text) (v w : Window) → ReadsWindow value_of v → ReadsWindow value_of w → v.to - v.from ≡ w.to - w.from
unfolding ReadsWindow
one_length value_of v w one also = grind (arith, one_number, codes, one_turn, end_turn)

-- where the text of an end is no turn, the options say no window
pub no_end : (value_of : Text → Option Text) (turns : ℕ) → ReadsTurns value_of turns → ((to : ℕ) → ReadsTurn turns (value_of (codes "to")) to → ⊥) → (w : Window) → ReadsWindow value_of w → ⊥
unfolding ReadsWindow
no_end value_of turns reads none w k =
    none w.to (end_turn (value_of (codes "to")) turns k.0 w.to (one_number (value_of (codes "turns")) turns k.0 reads.0 k.1.0) reads.1 k.2)

-- where the options say a window and more turns than a picture has, the window does not fit one
pub no_fit : (fits : Bool) (kind : CommandKind) (value_of : Text → Option Text) (w : Window) → ReadsWindow value_of w → (IsTrue fits → w.to - w.from ≤ 2000) → AsksForMore kind value_of → IsTrue (not fits)
no_fit true kind value_of w reads short k = absurd (omega (arith, short refl, k.1.2, one_length value_of w k.1.0 reads k.1.1))
no_fit false kind value_of w reads short k = refl

-- a drawing of more turns than a picture has is no text
no_drawing : (value_of : Text → Option Text) (profile : Profile) (w : Window) → ReadsWindow value_of w → 2000 < w.to - w.from
    → (turns : ℕ) (view : View) → ReadsRun value_of turns view → AsksForView Kind.Draw value_of profile turns view → ⊥
no_drawing value_of profile w reads long turns (View.Draw from) run asks = omega (arith, long, asks.1, one_length value_of (record { from = from; to = turns }) w run reads)
no_drawing value_of profile w reads long turns View.Barrel run asks = cc
no_drawing value_of profile w reads long turns View.Dump run asks = cc
no_drawing value_of profile w reads long turns View.State run asks = cc
no_drawing value_of profile w reads long turns View.Ends run asks = cc
no_drawing value_of profile w reads long turns View.Races run asks = cc
no_drawing value_of profile w reads long turns (View.Sessions words) run (is, _) = cc
no_drawing value_of profile w reads long turns (View.Memory n bounds) run (is, _, _) = cc
no_drawing value_of profile w reads long turns (View.Central bounds) run (is, _) = cc
no_drawing value_of profile w reads long turns (View.Steps chosen) run (is, _) = cc

no_picture : (value_of : Text → Option Text) (profile : Profile) (w : Window) → ReadsWindow value_of w → 2000 < w.to - w.from → (text : TextOf) → AsksForText Kind.Draw value_of profile text → ⊥
no_picture value_of profile w reads long TextOf.List k = cc
no_picture value_of profile w reads long (TextOf.Orders states) (is, _) = cc
no_picture value_of profile w reads long (TextOf.Run turns view) k = no_drawing value_of profile w reads long turns view k.0 k.1

-- one that fits is one
pub picture : (fits : Bool) (value_of : Text → Option Text) (profile : Profile) (w : Window) → ReadsWindow value_of w → IsTrue fits ↔ (w.to - w.from ≤ 2000)
    → Finds (AsksForText Kind.Draw value_of profile) (then_some fits (TextOf.Run w.to (View.Draw w.from)))
picture true value_of profile w reads is = (reads, (refl, is.0 refl))
picture false value_of profile w reads is = grind (arith, no_picture)

-- where the text of an option is there, and lists no channels, `check` asks for nothing
no_opened : (value : Option Text) → ((flags : Option (List Bool)) → ReadsChosen value flags → ⊥) → (flags : List Bool) → ReadsChannels value flags → ⊥
no_opened None none flags k = none None refl
no_opened (Some text) none flags k = none (Some flags) k

pub no_check : (value_of : Text → Option Text) → ((flags : Option (List Bool)) → ReadsChosen (value_of (codes "opened")) flags → ⊥) → (work : Work) → IsWorkOf Kind.Check value_of work → ⊥
no_check value_of none work k = grind (arith, none, k, no_opened)
