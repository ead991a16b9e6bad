-- How a head goes on by the words of a line.
use Rattle.std.specs.Prelude.{◌≡◌, ℕ, ◌+◌, ◌^◌, ◌≤◌, ◌<◌, ◌⊎◌, List, ◌∷◌, ◌++◌, length, map, codes, Contains, IsTrue}
use Rattle.pf_text.specs.Meaning.FirstFaults.{OnlySteps}
use Rattle.pf_ints.specs.declared.target.Target.{Target}
use Rattle.pf_ints.specs.Meaning.Images.{IsPixelType}
use Rattle.pf_ints.specs.declared.lane.LaneType.{LaneType}
use Rattle.pf_values.specs.declared.kernel.Definition.{Definition}
use Rattle.pf_values.specs.declared.kernel.ImageDecl.{ImageDecl}
use Rattle.pf_values.specs.declared.names.Tap.{Tap}
use Rattle.pf_values.specs.declared.names.Names.{Names}
use Rattle.pf_values.specs.declared.term.Term.{Term}
use Rattle.pf_text.specs.Meaning.Words.{is_name}
use Rattle.pf_values.specs.Meaning.Terms.{stated_type, depth_of, node_count}
use Rattle.pf_terms.specs.Meaning.KernelNames.{IsNames}
use Rattle.pf_terms.specs.Meaning.Meanings.{IsTermText}
use Rattle.pf_machine.specs.declared.program.Head.{Head}
use Rattle.pf_isa.specs.declared.so_far.Stage.{Stage}
use Rattle.pf_isa.specs.declared.so_far.Stage.TheVariants.{Declarations, Scratch, Lifted, Cost, Code}
use Rattle.pf_machine.specs.Meaning.Heads.{image_name, IsLifted}
use Rattle.pf_text.specs.Meaning.Lines.{IsLine}
use Rattle.pf_isa.specs.Meaning.Texts.{target_line}
use Rattle.pf_isa.specs.Steps.HeadWords.{image_words, tap_words, out_words, scratch_words, cost_words}
use Rattle.pf_isa.specs.declared.fault.TextFault.{TextFault}
use Rattle.pf_isa.specs.declared.fault.TextFault.TheVariants.{At}
use Rattle.pf_isa.specs.declared.fault.TextKind.TheVariants.{Target as TargetFault, Directive}
use Rattle.pf_isa.specs.Meaning.TextFaults.{SoFar, empty_head, GoesOn, GoOn, HeadStops, IsFor, head_names, names_so_far, nodes_so_far, head_with_image, head_with_tap, head_with_lifted, IsNextImage, IsNextTap, stage_behind}

abbrev pub ImageGoesOn : Head → ImageDecl → SoFar → Type 0
ImageGoesOn h d next = IsNextImage h d × (next ≡ record { stage = Declarations; head = head_with_image h d })

abbrev pub TapGoesOn : Head → Tap → SoFar → Type 0
TapGoesOn h t next = IsNextTap h t × (next ≡ record { stage = Declarations; head = head_with_tap h t })

abbrev pub OutGoesOn : Head → LaneType → SoFar → Type 0
OutGoesOn h ty next = IsPixelType ty × (1 ≤ length h.images) × (next ≡ record { stage = Scratch; head = record h { out_ty = ty } })

abbrev pub OutWordsGoOn : Head → List (List ℕ) → SoFar → Type 0
OutWordsGoOn h ws next = (ty : LaneType) × (ws ≡ out_words ty) × OutGoesOn h ty next

abbrev pub TapOrOutGoesOn : Head → List (List ℕ) → SoFar → Type 0
TapOrOutGoesOn h ws next = ((t : Tap) × (ws ≡ tap_words (map image_name h.images) t) × TapGoesOn h t next) ⊎ OutWordsGoOn h ws next

abbrev pub DeclarationGoesOn : Head → List (List ℕ) → SoFar → Type 0
DeclarationGoesOn h ws next = ((d : ImageDecl) × (ws ≡ image_words d) × ImageGoesOn h d next) ⊎ TapOrOutGoesOn h ws next

abbrev pub WordsGoOn : Stage → Head → List (List ℕ) → SoFar → Type 0
WordsGoOn Declarations h ws next = DeclarationGoesOn h ws next
WordsGoOn Scratch h ws next = (n : ℕ) × (ws ≡ scratch_words n) × (n ≤ 2 ^ 30) × (next ≡ record { stage = Lifted; head = record h { scratch = n } })
WordsGoOn Lifted h ws next = ⊥
WordsGoOn Cost h ws next = (n : ℕ) × (ws ≡ cost_words n) × (n < 2 ^ 64) × (next ≡ record { stage = Code; head = record h { cost = n } })
WordsGoOn Code h ws next = ⊥

-- a term that a text may have, behind others with so many nodes
abbrev pub IsFitting : Term → LaneType → ℕ → Type 0
IsFitting t ty before = (stated_type t ≡ ty) × (depth_of t ≤ 1024) × (before + node_count t ≤ 1536)

abbrev pub IsDefinitionOf : Names → List ℕ → LaneType → List ℕ → ℕ → Definition → Type 0
IsDefinitionOf names name ty text before d = (d.name ≡ name) × (d.ty ≡ ty) × IsTermText names text d.term names × IsLifted names d × (before + node_count d.term ≤ 1536)

-- at most 64 lifted terms aren't the output's
abbrev pub IsRoom : Head → List ℕ → Type 0
IsRoom h name = (name ≡ codes "out") ⊎ (IsTrue (is_name name) × (length h.lifted < 64))

abbrev pub TermGoesOn : Head → List ℕ → LaneType → List ℕ → SoFar → Type 0
TermGoesOn h name ty text next = (d : Definition) × IsDefinitionOf (names_so_far h) name ty text (nodes_so_far h) d × (next ≡ record { stage = stage_behind name; head = head_with_lifted h d })

-- a lifted term of this name and type goes on with its text
abbrev pub LiftedGoesOn : Head → List ℕ → LaneType → List ℕ → SoFar → Type 0
LiftedGoesOn h name ty text next = (Contains (head_names h) name → ⊥) × IsRoom h name × TermGoesOn h name ty text next

-- while terms may come, the names are such as terms may have
abbrev pub HasTermNamesAt : Stage → Head → Type 0
HasTermNamesAt Cost h = Unit {0}
HasTermNamesAt Code h = Unit {0}
HasTermNamesAt _ h = IsNames (names_so_far h)

abbrev pub HasTermNames : SoFar → Type 0
HasTermNames s = HasTermNamesAt s.stage s.head

-- lines go on so far
abbrev pub IsReached : SoFar → Type 0
IsReached s = (before : List (List ℕ)) × GoOn empty_head before s

abbrev pub whole : Head → SoFar
whole h = record { stage = Code; head = h }

-- from here the first lines say the rest of the head and nothing else, and so many lines say it in all
abbrev pub IsWholeFrom : SoFar → List (List ℕ) → ℕ → Head × ℕ → Type 0
IsWholeFrom s ls n r = (front : List (List ℕ)) × (back : List (List ℕ)) × (ls ≡ front ++ back) × (r.1 ≡ n + length front) × OnlySteps GoesOn s front (whole r.0)

-- from here no head is said, and it stops at this line
abbrev pub IsStopped : SoFar → List (List ℕ) → ℕ → TextFault → Type 0
IsStopped s ls n f =
    (front : List (List ℕ)) × (rest : List (List ℕ)) × (end : SoFar) × (ls ≡ front ++ rest) × (f ≡ At (n + length front + 1) Directive) × OnlySteps GoesOn s front end × HeadStops end rest

-- what is read of a head's lines, and what is wrong with them
abbrev pub IsHeadWay : Target → List (List ℕ) → Head × ℕ → Type 0
IsHeadWay target ls r = (first : List ℕ) × (rest : List (List ℕ)) × (ls ≡ first ∷ rest) × IsLine first (target_line target) × IsWholeFrom empty_head rest 1 r

abbrev pub IsHeadStop : Target → List (List ℕ) → TextFault → Type 0
IsHeadStop target ls f =
    ((f ≡ At 1 TargetFault) × (IsFor target ls → ⊥))
    ⊎ ((first : List ℕ) × (rest : List (List ℕ)) × (ls ≡ first ∷ rest) × IsLine first (target_line target) × IsStopped empty_head rest 1 f)
