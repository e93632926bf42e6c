-- What the reader makes of a line, and what a recorder has made of that.
use Rattle.std.specs.Prelude.{◌≡◌, ℕ, List, [], ◌∷◌, ◌++◌, map, Bool, true, false}
use denote.Bor.{now}
use Rattle.dnssec_run.specs.declared.call.Call.{Call}
use Rattle.dnssec_run.specs.declared.record.Entry.{Entry}
use Rattle.dnssec_run.specs.declared.running.Recorder.{Recorder}
use Rattle.dnssec_run.specs.Recorder.{Records}
use Rattle.dnssec_script.specs.Script.{Value, References, Roll, Moment, call_says, trait_values}
use Rattle.dnssec_script.specs.declared.forms.KeyTraits.{KeyTraits}
use Rattle.dnssec_script.specs.declared.word.Word.{Word}
use Rattle.dnssec_script.specs.declared.word.Word.TheVariants as word
use Rattle.dnssec_script.specs.declared.statement.ListTexts.{ListTexts}
use Rattle.dnssec_script.specs.declared.statement.ListTexts.TheVariants as texts
use Rattle.dnssec_script.specs.declared.statement.Start.{Start}
use Rattle.dnssec_script.specs.declared.statement.Statement.{Statement}
use Rattle.dnssec_script.specs.declared.statement.Statement.TheVariants as statement

-- what an add says of these traits of its key
abbrev pub traits_say : KeyTraits → List Value
traits_say t = trait_values t.algorithm t.key_tag t.creation_ts t.available

-- the words that add a key
abbrev pub adds : Word → Bool
adds word.AddKsk = true
adds word.AddZsk = true
adds word.AddCsk = true
adds word.AddPublic = true
adds _ = false

-- the words whose call has texts or lists of its own
abbrev pub takes_memory : Word → Bool
takes_memory word.Start = true
takes_memory w = adds w

-- the references of a list as texts
abbrev pub texts_of : ListTexts → List (List ℕ)
texts_of (texts.One reference) = reference.now ∷ []
texts_of (texts.Any references) = map now references.items

-- what a start says
abbrev pub start_says : Start → Word × List Value
start_says s = (
  word.Start,
  Roll s.rolltype ∷ References (texts_of s.old) ∷ References (texts_of s.new)
      ∷ Moment s.moment ∷ [],
)

-- what a statement says
abbrev pub statement_says : Statement → Word × List Value
statement_says (statement.Call call) = call_says call
statement_says (statement.Start start) = start_says start

-- a recorder has made a call that says this, and this is its entry
pub record MakesEntry (says : Word × List Value) (old new : Recorder) (entry : Entry)
    : Type 0 where
  pub call : Call
  pub is_call : call_says call ≡ says
  pub records : (name : List ℕ) (calls : List Call) (entries : List Entry) →
      Records name calls entries old →
      Records name (calls ++ call ∷ []) (entries ++ entry ∷ []) new
