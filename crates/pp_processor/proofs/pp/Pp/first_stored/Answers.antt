use Rattle.std.proofs.Common.{◌≡◌, ◌≢◌, ◌<◌, ℕ, refl, sym, subst, arith}
use Rattle.pp_word.specs.Address.{place_count}
use Rattle.pp_word.specs.declared.opcode.Opcode.{Opcode}
use Rattle.pp_word.specs.declared.opcode.Opcode.TheVariants.{RJM, CRM, CWM, IAM, OAM}
use Rattle.pp_processor.specs.InstructionTable.{operand_place}
use Rattle.pp_processor.specs.Processor.{Processor}
use Rattle.pp_processor.specs.Stores.{KeepsOthers, first_of, first_stored}
use Rattle.pp_processor.proofs.StoreLemmas.{others_kept}
use Rattle.pp_processor.proofs.pp.Pp.first_stored.Goals as goal

stores_to_operand : (op : Opcode) (pp : Processor) (d : ℕ) → op ≢ RJM → op ≢ CRM → op ≢ CWM → op ≢ IAM → op ≢ OAM
    → operand_place op pp d ≡ first_of op pp d
stores_to_operand RJM pp d rjm crm cwm iam oam = absurd (rjm refl)
stores_to_operand CRM pp d rjm crm cwm iam oam = absurd (crm refl)
stores_to_operand CWM pp d rjm crm cwm iam oam = absurd (cwm refl)
stores_to_operand IAM pp d rjm crm cwm iam oam = absurd (iam refl)
stores_to_operand OAM pp d rjm crm cwm iam oam = absurd (oam refl)
stores_to_operand op pp d rjm crm cwm iam oam = refl

kept_from : {first : ℕ} (pp : Processor) → first ≡ first_stored pp.block pp → first < place_count → KeepsOthers pp first
kept_from pp is low = subst (KeepsOthers pp) (sym is) (others_kept pp (rw (← is) low))

pub returns-in_default-operation : goal.returns-in_default-operation
returns-in_default-operation c = record {
  place = grind (arith, stores_to_operand);
  others = kept_from c.args.self.now (grind (arith, stores_to_operand)) (omega arith);
}
