-- How it is said why a text was not written.
use Rattle.std.specs.Prelude.{ℕ, List, ◌++◌, codes}
use Rattle.pp_check.specs.FaultText.{trace_fault_text}
use Rattle.pp_deck.specs.FaultText.{deck_fault_text}
use Rattle.pp_listing.specs.Dump.{busy_text}
use Rattle.pp_sim.specs.declared.text_fault.TextFault.{TextFault}

abbrev pub fault_text : TextFault → List ℕ
fault_text TextFault.Read = codes "read fault"
fault_text (TextFault.Deck fault) = deck_fault_text fault
fault_text (TextFault.NotBetweenPrograms busy) = codes "not between programs: " ++ busy_text busy
fault_text TextFault.Findings = codes "something is found"
fault_text (TextFault.Trace fault) = trace_fault_text fault
fault_text TextFault.Memory = codes "out of memory"
fault_text TextFault.Write = codes "write fault"
