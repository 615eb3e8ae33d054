-- Of private clauses.
-- Reading a directive as the kind that its first lexemes say.
use Rattle.std.specs.Prelude.{Bool, true, false, ◌&&◌, ◌||◌, not, if◌then◌else◌, List, [], ◌∷◌, drop, Option, Some, None, codes}
use Rattle.syntax_tree.specs.Lexeme.{Lexeme, Word}
use Rattle.line_forms.specs.declared.depths.Depths.{Depths}
use Rattle.line_forms.specs.declared.read_error.ReadError.TheVariants as read_error
use Rattle.line_forms.specs.Marks.{starts, key, opening}
use Rattle.line_forms.specs.Grammar.{Value}
use Rattle.line_forms.specs.Reading.{Reading, Found, Stopped, ◌>>=◌}
use Rattle.line_forms.specs.Read.{read}
use Rattle.directive_reader.specs.declared.kind.Kind.{Kind}
use Rattle.directive_reader.specs.declared.kind.Kind.TheVariants as kind
use Rattle.directive_reader.specs.Forms.{DirectiveForm, Known, Passed, alignment, distribution, grammar, is_passed}

-- a word stands in front
abbrev pub is_named : List Lexeme → Bool
is_named (Word x ∷ ts) = true
is_named ts = false

-- after WITH, which is an alignee: its list, or WITH and the target
abbrev pub is_alignee : List Lexeme → Bool
is_alignee ts = starts opening ts || (starts (key (codes "WITH")) ts && is_named (drop 1 ts))

-- after ALIGN: the alignees stand after `::`, since their list comes first, or WITH that is no alignee
abbrev pub is_many : List Lexeme → Bool
is_many ts = starts opening ts || (starts (key (codes "WITH")) ts && not (is_alignee (drop 1 ts)))

-- the kind of the directive that may stand there
abbrev pub directive_kind : List Lexeme → Option Kind
directive_kind ts =
    if starts (key (codes "PROCESSORS")) ts then Some kind.Processors else
    if starts (key (codes "TEMPLATE")) ts then Some kind.Template else
    if starts (key (codes "DYNAMIC")) ts then Some kind.Dynamic else
    if starts (key (codes "DISTRIBUTE")) ts then Some (kind.Distribute (starts opening (drop 1 ts))) else
    if starts (key (codes "REDISTRIBUTE")) ts then Some (kind.Redistribute (starts opening (drop 1 ts))) else
    if starts (key (codes "ALIGN")) ts then Some (kind.Align (is_many (drop 1 ts))) else
    if starts (key (codes "INDEPENDENT")) ts then Some kind.Independent else None

-- a directive of the kind in front
abbrev pub known : Depths → Kind → List Lexeme → Reading DirectiveForm
known depths k ts = read depths (grammar k) ts >>= λ v. Found (Known k v.0, v.1)

abbrev pub of_kind : Depths → Option Kind → List Lexeme → Reading DirectiveForm
of_kind depths None ts = Stopped read_error.Malformed
of_kind depths (Some k) ts = known depths k ts

-- with nothing left
abbrev pub ended : DirectiveForm × List Lexeme → Reading DirectiveForm
ended (form, []) = Found (form, [])
ended (form, t ∷ ts) = Stopped read_error.Malformed

-- the whole line
abbrev pub directive : Depths → List Lexeme → Reading DirectiveForm
directive depths ts = if is_passed ts then Found (Passed [], []) else (of_kind depths (directive_kind ts) ts >>= ended)

-- the formats of a DISTRIBUTE or REDISTRIBUTE, after its word
abbrev pub DistributionSpec : Type 0
DistributionSpec = (many : Bool) × Value (distribution many)

abbrev pub distribution_spec : Depths → Bool → List Lexeme → Reading DistributionSpec
distribution_spec depths many ts = read depths (distribution many) ts >>= λ v. Found ((many, v.0), v.1)

-- the alignees and the target of an ALIGN, after its word
abbrev pub AlignmentSpec : Type 0
AlignmentSpec = (many : Bool) × Value (alignment many)

abbrev pub alignment_spec : Depths → Bool → List Lexeme → Reading AlignmentSpec
alignment_spec depths many ts = read depths (alignment many) ts >>= λ v. Found ((many, v.0), v.1)
