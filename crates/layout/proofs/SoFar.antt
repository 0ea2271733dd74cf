-- What was read so far is what is written of it: of either file, step by step.
use Rattle.std.proofs.Common.{◌≡◌, ℕ, true, ◌⊎◌, List, [], ◌∷◌, ◌++◌, drop, sym, refl, ap, ◌∙◌, subst, ⊎_elim, append_assoc, append-nil}
use Rattle.std.specs.List.{AllByRecursion as All}
use Rattle.std.proofs.lemmas.Bool.{eqb-true}
use Rattle.fields.specs.Bytes.{tag, body, field_size, Point}
use Rattle.fields.specs.Fields.{allowed, byte_of_kind}
use Rattle.fields.specs.declared.spot.File.{File}
use Rattle.fields.specs.declared.field.Turn.TheVariants.{Head}
use Rattle.layout.specs.Layout.{field, header_field, end_field}
use Rattle.layout.specs.Rules.{Moment, outset, inside, over, Context, turn_inside, rules_at, with_field}
use Rattle.layout.specs.Reading.{Standing, rules_here, onward, Reaches}
use Rattle.layout.proofs.Lowest.{Unbroken, unbroken}
use Rattle.layout.proofs.Paths.{keep}
use Rattle.layout.proofs.Fronts.{Byte}
use Rattle.layout.proofs.Bodies.{header-body}
use Rattle.layout.proofs.Calm.{body_rules, calm-whole}

-- a field more, of the header's file
whole-more : (bytes head old new fld left rest : List ℕ) → bytes ≡ (head ++ old) ++ left → left ≡ fld ++ rest → new ≡ old ++ fld → bytes ≡ (head ++ new) ++ rest
whole-more bytes head old new fld left rest w l n =
    w
    ∙ ap (λ x. (head ++ old) ++ x) l
    ∙ sym (append_assoc (head ++ old) fld rest)
    ∙ ap (λ x. x ++ rest) (append_assoc head old fld ∙ ap (λ x. head ++ x) (sym n))

-- for a file, what is written of the tables read so far, and what holds of them at each moment
module _ (f : File) (tables : Context → List ℕ) (Kept : Moment → Context → Type 0) where
  abbrev pub written : Moment → Context → List ℕ
  written outset c = []
  written inside c = header_field f ++ tables c
  written over c = header_field f ++ (tables c ++ end_field)

  pub record SoFar (bytes : List ℕ) (s : Standing) : Type 0 where
    pub file : s.point.file ≡ f
    pub whole : bytes ≡ written s.context.moment s.context ++ s.point.left
    pub small : All Byte s.point.left
    pub kept : Kept s.context.moment s.context

  -- a field of the tables, or the end
  pub record More (c d : Context) (t : ℕ) (b : List ℕ) : Type 0 where
    pub moment : d.moment ≡ inside
    pub grown : tables d ≡ tables c ++ field t b
    pub kept : Kept inside d

  pub record End (c d : Context) (t : ℕ) (b : List ℕ) : Type 0 where
    pub moment : d.moment ≡ over
    pub empty : field t b ≡ end_field
    pub same : tables d ≡ tables c
    pub kept : Kept over d

  -- what has to be known of the file
  module _
      (begins : (c : Context) (b : List ℕ) → Kept outset c → (tables (with_field c 1 b) ≡ []) × Kept inside (with_field c 1 b))
      (goes : (c : Context) (t : ℕ) (b : List ℕ) → c.moment ≡ inside → Kept inside c → allowed (turn_inside f c) t ≡ true → All Byte b → All Unbroken (body_rules f c t b) → More c (with_field c t b) t b ⊎ End c (with_field c t b) t b)
      (bytes : List ℕ)
    where
      module _ (c : Context) (p : Point) (file : p.file ≡ f) (small : All Byte p.left) where
        abbrev next : Standing
        next = onward (record { context = c; point = p })

        abbrev rest : List ℕ
        rest = drop (field_size p.left) p.left

        from-outset : bytes ≡ p.left → Kept outset c → All Unbroken (rules_at outset c p) → SoFar bytes next
        from-outset w k u =
            let g = calm-whole Head c p small u in
            let t = tag p.left in
            let b = body p.left in
            let e : t ≡ 1 = eqb-true t 1 g.may in
            let at_one = subst (λ x. All Unbroken (body_rules p.file c x b)) e g.tests in
            let is : b ≡ byte_of_kind f ∷ 1 ∷ [] = header-body p.file b at_one.0 at_one.1.0 ∙ ap (λ x. byte_of_kind x ∷ 1 ∷ []) file in
            let n = begins c b k in
            let whole : bytes ≡ (header_field f ++ tables (with_field c 1 b)) ++ rest
            = w ∙ g.front ∙ (λ i. field (e i) (is i) ++ rest) ∙ ap (λ x. x ++ rest) (sym (append-nil (header_field f)) ∙ ap (λ x. header_field f ++ x) (sym n.0)) in
            record {
              file = file;
              whole = subst (λ x. bytes ≡ written (with_field c x b).moment (with_field c x b) ++ rest) (sym e) whole;
              small = g.rest;
              kept = subst (λ x. Kept (with_field c x b).moment (with_field c x b)) (sym e) n.1;
            }

        from-inside : c.moment ≡ inside → bytes ≡ (header_field f ++ tables c) ++ p.left → Kept inside c → All Unbroken (rules_at inside c p) → SoFar bytes next
        from-inside m w k u =
            let g = calm-whole (turn_inside p.file c) c p small u in
            let t = tag p.left in
            let b = body p.left in
            let d = with_field c t b in
            let may = subst (λ x. allowed (turn_inside x c) t ≡ true) file g.may in
            let tests = subst (λ x. All Unbroken (body_rules x c t b)) file g.tests in
            ⊎_elim
            (λ (h : More c d t b).
            let whole = whole-more bytes (header_field f) (tables c) (tables d) (field t b) p.left rest w g.front h.grown in
            record {
              file = file;
              whole = subst (λ x. bytes ≡ written x d ++ rest) (sym h.moment) whole;
              small = g.rest;
              kept = subst (λ x. Kept x d) (sym h.moment) h.kept;
            })
            (λ (h : End c d t b).
            let whole = whole-more bytes (header_field f) (tables c) (tables d ++ end_field) (field t b) p.left rest w g.front (λ i. h.same i ++ sym h.empty i) in
            record {
              file = file;
              whole = subst (λ x. bytes ≡ written x d ++ rest) (sym h.moment) whole;
              small = g.rest;
              kept = subst (λ x. Kept x d) (sym h.moment) h.kept;
            })
            (goes c t b m k may g.bytes tests)

        at-moment : (m : Moment) → c.moment ≡ m → bytes ≡ written m c ++ p.left → Kept m c → (m ≡ over → ⊥) → All Unbroken (rules_at m c p) → SoFar bytes next
        at-moment outset e w k o u = from-outset w k u
        at-moment inside e w k o u = from-inside e w k u
        at-moment over e w k o u = absurd (o refl)

      pub so_far : (s t : Standing) → Reaches s t → SoFar bytes s → SoFar bytes t
      so_far s t r p =
          keep (SoFar bytes)
          (λ x h g. at-moment x.context x.point h.file h.small x.context.moment refl h.whole h.kept g.0 (unbroken (rules_here x) g.1))
          r.0 s t r.1 p
