-- The table of operation codes: the upper six bits of an instruction word, in octal as in the
-- manual. (Manual 60100000, peripheral processors: list of instructions.)
use Rattle.std.specs.Prelude.{ℕ, Bool, true, false, if◌then◌else◌, List, [], ◌∷◌, slice_index_or, codes}
use Rattle.pp_word.specs.declared.{opcode.Opcode.Opcode, operands.Operands.Operands}
use Rattle.pp_word.specs.declared.opcode.Opcode.TheVariants.{PSN, LJM, RJM, UJN, ZJN, NJN, PJN, MJN, SHN, LMN, LPN, SCN, LDN, LCN, ADN, SBN, LDC, ADC, LPC, LMC, PSN24, PSN25, EXN, RPN, LDD, ADD, SBD, LMD, STD, RAD, AOD, SOD, LDI, ADI, SBI, LMI, STI, RAI, AOI, SOI, LDM, ADM, SBM, LMM, STM, RAM, AOM, SOM, CRD, CRM, CWD, CWM, AJM, IJM, FJM, EJM, IAN, IAM, OAN, OAM, ACN, DCN, FAN, FNC}
use Rattle.pp_word.specs.declared.operands.Operands.TheVariants.{IndexedPlace, JumpPlace, Constant, PlaceAndNumber, Number}

-- a row of the table: the code, the kind of the operands, and the mnemonic
pub record Row : Type 0 where
  pub code : ℕ
  pub operands : Operands
  pub mnemonic : List ℕ

abbrev pub row : ℕ → Operands → List ℕ → Row
row code operands mnemonic = record { code = code; operands = operands; mnemonic = mnemonic }

abbrev pub row_of : Opcode → Row
row_of PSN = row 0o00 Number (codes "PSN")
row_of LJM = row 0o01 IndexedPlace (codes "LJM")
row_of RJM = row 0o02 IndexedPlace (codes "RJM")
row_of UJN = row 0o03 JumpPlace (codes "UJN")
row_of ZJN = row 0o04 JumpPlace (codes "ZJN")
row_of NJN = row 0o05 JumpPlace (codes "NJN")
row_of PJN = row 0o06 JumpPlace (codes "PJN")
row_of MJN = row 0o07 JumpPlace (codes "MJN")
row_of SHN = row 0o10 Number (codes "SHN")
row_of LMN = row 0o11 Number (codes "LMN")
row_of LPN = row 0o12 Number (codes "LPN")
row_of SCN = row 0o13 Number (codes "SCN")
row_of LDN = row 0o14 Number (codes "LDN")
row_of LCN = row 0o15 Number (codes "LCN")
row_of ADN = row 0o16 Number (codes "ADN")
row_of SBN = row 0o17 Number (codes "SBN")
row_of LDC = row 0o20 Constant (codes "LDC")
row_of ADC = row 0o21 Constant (codes "ADC")
row_of LPC = row 0o22 Constant (codes "LPC")
row_of LMC = row 0o23 Constant (codes "LMC")
row_of PSN24 = row 0o24 Number (codes "PSN")
row_of PSN25 = row 0o25 Number (codes "PSN")
row_of EXN = row 0o26 Number (codes "EXN")
row_of RPN = row 0o27 Number (codes "RPN")
row_of LDD = row 0o30 Number (codes "LDD")
row_of ADD = row 0o31 Number (codes "ADD")
row_of SBD = row 0o32 Number (codes "SBD")
row_of LMD = row 0o33 Number (codes "LMD")
row_of STD = row 0o34 Number (codes "STD")
row_of RAD = row 0o35 Number (codes "RAD")
row_of AOD = row 0o36 Number (codes "AOD")
row_of SOD = row 0o37 Number (codes "SOD")
row_of LDI = row 0o40 Number (codes "LDI")
row_of ADI = row 0o41 Number (codes "ADI")
row_of SBI = row 0o42 Number (codes "SBI")
row_of LMI = row 0o43 Number (codes "LMI")
row_of STI = row 0o44 Number (codes "STI")
row_of RAI = row 0o45 Number (codes "RAI")
row_of AOI = row 0o46 Number (codes "AOI")
row_of SOI = row 0o47 Number (codes "SOI")
row_of LDM = row 0o50 IndexedPlace (codes "LDM")
row_of ADM = row 0o51 IndexedPlace (codes "ADM")
row_of SBM = row 0o52 IndexedPlace (codes "SBM")
row_of LMM = row 0o53 IndexedPlace (codes "LMM")
row_of STM = row 0o54 IndexedPlace (codes "STM")
row_of RAM = row 0o55 IndexedPlace (codes "RAM")
row_of AOM = row 0o56 IndexedPlace (codes "AOM")
row_of SOM = row 0o57 IndexedPlace (codes "SOM")
row_of CRD = row 0o60 Number (codes "CRD")
row_of CRM = row 0o61 PlaceAndNumber (codes "CRM")
row_of CWD = row 0o62 Number (codes "CWD")
row_of CWM = row 0o63 PlaceAndNumber (codes "CWM")
row_of AJM = row 0o64 PlaceAndNumber (codes "AJM")
row_of IJM = row 0o65 PlaceAndNumber (codes "IJM")
row_of FJM = row 0o66 PlaceAndNumber (codes "FJM")
row_of EJM = row 0o67 PlaceAndNumber (codes "EJM")
row_of IAN = row 0o70 Number (codes "IAN")
row_of IAM = row 0o71 PlaceAndNumber (codes "IAM")
row_of OAN = row 0o72 Number (codes "OAN")
row_of OAM = row 0o73 PlaceAndNumber (codes "OAM")
row_of ACN = row 0o74 Number (codes "ACN")
row_of DCN = row 0o75 Number (codes "DCN")
row_of FAN = row 0o76 Number (codes "FAN")
row_of FNC = row 0o77 PlaceAndNumber (codes "FNC")

abbrev pub code_of : Opcode → ℕ
code_of op = (row_of op).code

-- whether operands of a kind take a second word
abbrev pub have_second_word : Operands → Bool
have_second_word JumpPlace = false
have_second_word Number = false
have_second_word kind = true

abbrev pub is_long : Opcode → Bool
is_long op = have_second_word (row_of op).operands

-- the number of words of an instruction
abbrev pub length_of : Opcode → ℕ
length_of op = if is_long op then 2 else 1

-- the operations in the order of their codes, eight a line
abbrev pub operations : List Opcode
operations =
    PSN ∷ LJM ∷ RJM ∷ UJN ∷ ZJN ∷ NJN ∷ PJN ∷ MJN ∷
    SHN ∷ LMN ∷ LPN ∷ SCN ∷ LDN ∷ LCN ∷ ADN ∷ SBN ∷
    LDC ∷ ADC ∷ LPC ∷ LMC ∷ PSN24 ∷ PSN25 ∷ EXN ∷ RPN ∷
    LDD ∷ ADD ∷ SBD ∷ LMD ∷ STD ∷ RAD ∷ AOD ∷ SOD ∷
    LDI ∷ ADI ∷ SBI ∷ LMI ∷ STI ∷ RAI ∷ AOI ∷ SOI ∷
    LDM ∷ ADM ∷ SBM ∷ LMM ∷ STM ∷ RAM ∷ AOM ∷ SOM ∷
    CRD ∷ CRM ∷ CWD ∷ CWM ∷ AJM ∷ IJM ∷ FJM ∷ EJM ∷
    IAN ∷ IAM ∷ OAN ∷ OAM ∷ ACN ∷ DCN ∷ FAN ∷ FNC ∷ []

abbrev pub opcode_at : ℕ → Opcode
opcode_at code = slice_index_or operations code PSN
