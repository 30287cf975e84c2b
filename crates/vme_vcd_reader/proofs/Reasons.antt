-- Why a byte is none of a body.
use Rattle.std.proofs.Common.{◌≡◌, ℕ, List, [], ◌∷◌, Option, Some, None, refl, sym}
use Rattle.vme_vcd_reader.specs.declared.body.Body.{Body}
use Rattle.vme_vcd_reader.specs.declared.body.Place.TheVariants as places
use Rattle.vme_vcd_reader.specs.declared.fault.VcdFault.TheVariants as faults
use Rattle.vme_vcd_reader.specs.Faults.{opened_fault, word_fault}
use Rattle.vme_vcd_reader.specs.Places.{HasOpened, IsAt}
use Rattle.vme_vcd_reader.specs.Words.{Opening, Number, Vector, Skipped, Keyword, Scalar, opening, Awaited, Statement, Variable, Unread, Remark}

-- the fault of a word by the place of its begin
opened_digits : (o : Option Opening) (c : ℕ) (cs : List ℕ) (s : Body) → HasOpened c cs s o → s.place ≡ places.Digits → opened_fault o ≡ faults.BadValue
opened_digits None c cs s has place = absurd has
opened_digits (Some Number) c cs s has place = absurd (cc (has.place))
opened_digits (Some Vector) c cs s has place = refl
opened_digits (Some Skipped) c cs s has place = absurd (cc)
opened_digits (Some Keyword) c cs s has place = absurd (cc (has.0))
opened_digits (Some (Scalar level)) c cs s has place = absurd (cc (has.place))

pub at_digits : (awaited : Awaited) (word : List ℕ) (s : Body) → IsAt awaited word s → s.place ≡ places.Digits → faults.BadValue ≡ word_fault awaited word
at_digits Statement [] s at place = absurd (cc)
at_digits Statement (c ∷ cs) s at place = sym (opened_digits (opening c) c cs s at place)
at_digits (Variable levels) [] s at place = absurd (cc (at.0))
at_digits (Variable levels) (c ∷ cs) s at place = absurd (cc (at.place))
at_digits Unread [] s at place = absurd (cc)
at_digits Unread (c ∷ cs) s at place = absurd (cc)
at_digits Remark word s at place = absurd (cc (at.0))

opened_time : (o : Option Opening) (c : ℕ) (cs : List ℕ) (s : Body) → HasOpened c cs s o → s.place ≡ places.Time → opened_fault o ≡ faults.BadTime
opened_time None c cs s has place = absurd has
opened_time (Some Number) c cs s has place = refl
opened_time (Some Vector) c cs s has place = absurd (cc (has.place))
opened_time (Some Skipped) c cs s has place = absurd (cc)
opened_time (Some Keyword) c cs s has place = absurd (cc (has.0))
opened_time (Some (Scalar level)) c cs s has place = absurd (cc (has.place))

pub at_time : (awaited : Awaited) (word : List ℕ) (s : Body) → IsAt awaited word s → s.place ≡ places.Time → faults.BadTime ≡ word_fault awaited word
at_time Statement [] s at place = absurd (cc)
at_time Statement (c ∷ cs) s at place = sym (opened_time (opening c) c cs s at place)
at_time (Variable levels) [] s at place = absurd (cc (at.0))
at_time (Variable levels) (c ∷ cs) s at place = absurd (cc (at.place))
at_time Unread [] s at place = absurd (cc)
at_time Unread (c ∷ cs) s at place = absurd (cc)
at_time Remark word s at place = absurd (cc (at.0))

opened_name : (o : Option Opening) (c : ℕ) (cs : List ℕ) (s : Body) → HasOpened c cs s o → s.place ≡ places.Identifier → opened_fault o ≡ faults.NoIdentifier
opened_name None c cs s has place = absurd has
opened_name (Some Number) c cs s has place = absurd (cc (has.place))
opened_name (Some Vector) c cs s has place = absurd (cc (has.place))
opened_name (Some Skipped) c cs s has place = absurd (cc)
opened_name (Some Keyword) c cs s has place = absurd (cc (has.0))
opened_name (Some (Scalar level)) c cs s has place = refl

pub at_name : (awaited : Awaited) (word : List ℕ) (s : Body) → IsAt awaited word s → s.place ≡ places.Identifier → faults.NoIdentifier ≡ word_fault awaited word
at_name Statement [] s at place = absurd (cc)
at_name Statement (c ∷ cs) s at place = sym (opened_name (opening c) c cs s at place)
at_name (Variable levels) word s at place = refl
at_name Unread word s at place = refl
at_name Remark word s at place = refl
