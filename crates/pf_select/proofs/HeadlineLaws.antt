-- The headline of a text that is written of a program of the lesser of two taps.
use Rattle.std.proofs.Common.{◌≡◌, sym, ap, subst, ◌∙◌, ℕ, List, ◌++◌, length}
use Rattle.pf_ints.specs.declared.target.Target.TheVariants.{Neon as NeonTarget}
use Rattle.pf_ints.specs.declared.lane.LaneType.{LaneType}
use Rattle.pf_ints.specs.Meaning.Images.{Picture}
use Rattle.pf_values.specs.declared.kernel.Definition.{Definition}
use Rattle.pf_values.specs.declared.term.Term.{Term}
use Rattle.pf_values.specs.Meaning.Kernels.{Source, Keeps, Out}
use Rattle.pf_machine.specs.declared.program.Head.{Head}
use Rattle.pf_machine.specs.Meaning.Moved.{Moved, Work}
use Rattle.pf_machine.specs.Meaning.Programs.{ProgramOf}
use Rattle.pf_isa.specs.Meaning.Texts.{IsText, printed, head_lines, code_lines}
use Rattle.pf_machine.specs.Meaning.Runs.{Places, IsPlaced, Leaves}
use Rattle.pf_tables.specs.declared.instruction.Instruction.{Instruction}
use Rattle.pf_neon.specs.Meaning.Neon.{Neon, table, IsNeonInstruction}
use Rattle.pf_select.specs.Meaning.MinOfTaps.{byte_type, min_term, min_source, IsMinOfTaps, LeavesMin}
use Rattle.pf_isa.specs.Meaning.Headline.{Headline}
use Rattle.pf_select.specs.Meaning.Selected.{IsSelected, head_of}

abbrev with_parts : Source → List Definition → LaneType → Term → Source
with_parts s ds ty t = record { images = s.images; taps = s.taps; defs = ds; out_ty = ty; out = t }

-- what a kernel says, by its head and its two taps
least_is : (s : Source) (first second : ℕ) → IsMinOfTaps s first second → min_source (head_of s) first second ≡ s
least_is s first second least =
    ap (λ (ds : List Definition). with_parts s ds byte_type (min_term byte_type first second)) (sym least.defs)
    ∙ ap (λ (ty : LaneType). with_parts s s.defs ty (min_term byte_type first second)) (sym least.out_ty)
    ∙ ap (λ (t : Term). with_parts s s.defs s.out_ty t) (sym least.out)

-- the program leaves the output of what a kernel says
abbrev LeavesOut : Source → ProgramOf Neon Instruction → Type 0
LeavesOut s p = (pictures : List Picture) → Keeps s pictures
    → (o : Picture) × Out s pictures o × ((at : Places) (scratch output : List ℕ) → IsPlaced p.head pictures at scratch output → Leaves table p pictures at scratch output o)

headline_at : (s : Source) (text : List ℕ) (p : ProgramOf Neon Instruction) (first second : ℕ) → IsMinOfTaps s first second → p.head ≡ head_of s → LeavesMin p first second → IsText table IsNeonInstruction text p → Headline Neon table IsNeonInstruction s text
headline_at s text p first second least is leaves parses =
    let same : min_source p.head first second ≡ s = ap (λ h. min_source h first second) is ∙ least_is s first second least in
    record {
      program = p;
      parses = parses;
      images = ap (λ (h : Head). h.images) is;
      taps = ap (λ (h : Head). h.taps) is;
      out_ty = ap (λ (h : Head). h.out_ty) is;
      right = subst (λ s. LeavesOut s p) same leaves;
    }

-- what is known of a program that is made for a head
pub record IsMade (wanted : Head) (first second : ℕ) (p : ProgramOf Neon Instruction) : Type 0 where
  pub head : p.head ≡ wanted
  pub moved : Moved table (length p.head.taps) p.code p.labels
  pub work : Work table p.code ≡ 1
  pub right : LeavesMin p first second

pub selected_from : (s : Source) (text : List ℕ) (head : Head) (first second : ℕ) (p : ProgramOf Neon Instruction) → IsMinOfTaps s first second → head ≡ head_of s → IsMade head first second p
    → IsText table IsNeonInstruction text p → text ≡ printed (head_lines NeonTarget p.head ++ code_lines table 0 p.code p.labels) → IsSelected s text
unfolding headline_at
selected_from s text head first second p least same_head made parses spelled =
    let is : p.head ≡ head_of s = made.head ∙ same_head in
    record {
      headline = headline_at s text p first second least is made.right parses;
      spelled = spelled;
      head = is;
      moved = made.moved;
      work = made.work ∙ sym (ap (λ (h : Head). h.cost) is);
    }
