-- What a call of `write!` adds, as members of an object.
use Rattle.std.proofs.Common.{◌≡◌, ◌∙◌, ℕ, Bool, List, [], ◌∷◌, ◌++◌, Option, codes, refl, sym, ap, append_assoc}
use Rattle.std.specs.Prelude.{decimal, option_map}
use Rattle.arm2_exec.specs.State.{State}
use Rattle.arm2_exec.specs.Step.{address_in}
use Rattle.arm2_exec.specs.declared.machine.Ran.{Ran}
use Rattle.arm2_exec.specs.declared.machine.Stepped.{Stepped}
use Rattle.memc.specs.Memory.{Memory}
use Rattle.text_trace.specs.TraceText.{why_name}
use Rattle.json_trace.specs.Json.{boolean, ended, member, name_value, object, quoted, separated, word_value}
use Rattle.json_trace.specs.Records.{end_line}
use Rattle.json_trace.specs.StepLine.{fetched_members, line_members, memory_word, mode_members, size_of, time_members, transfer_kind, transfer_value, word_or_null}

pub mode_put : (mode flags : List ℕ)
    → codes "\"mode\":\"" ++ (mode ++ (codes "\",\"flags\":\"" ++ (flags ++ codes "\",\"registers\":")))
    ≡ ended (mode_members mode flags) ++ (quoted (codes "registers") ++ codes ":")
mode_put mode flags = simp append_assoc

pub fetched_put : (number from : ℕ) (word : Option ℕ) (text place value : List ℕ) → place ≡ word_value from
    → value ≡ word_or_null word
    → codes "\"step\":"
    ++ (decimal number
    ++ (codes ",\"pc\":"
    ++ (place ++ (codes ",\"word\":" ++ (value ++ (codes ",\"text\":" ++ (text ++ codes ",")))))))
    ≡ ended (fetched_members number from word text)
fetched_put number from word text place value at is =
    ap
    (λ (t : List ℕ). codes "\"step\":"
    ++ (decimal number
    ++ (codes ",\"pc\":" ++ (t ++ (codes ",\"word\":" ++ (value ++ (codes ",\"text\":" ++ (text ++ codes ","))))))))
    at
    ∙ ap
    (λ (t : List ℕ). codes "\"step\":"
    ++ (decimal number
    ++ (codes ",\"pc\":"
    ++ (word_value from ++ (codes ",\"word\":" ++ (t ++ (codes ",\"text\":" ++ (text ++ codes ","))))))))
    is

pub lines_put : (lines : ℕ) (fiq irq : Bool) (value asserts_fiq asserts_irq : List ℕ) → value ≡ word_value lines
    → asserts_fiq ≡ boolean fiq → asserts_irq ≡ boolean irq
    → codes ",\"lines\":"
    ++ (value ++ (codes ",\"fiq\":" ++ (asserts_fiq ++ (codes ",\"irq\":" ++ (asserts_irq ++ codes ",")))))
    ≡ codes "," ++ ended (line_members lines fiq irq)
lines_put lines fiq irq value asserts_fiq asserts_irq is by_fiq by_irq =
    ap
    (λ (t : List ℕ). codes ",\"lines\":"
    ++ (t ++ (codes ",\"fiq\":" ++ (asserts_fiq ++ (codes ",\"irq\":" ++ (asserts_irq ++ codes ","))))))
    is
    ∙ ap
    (λ (t : List ℕ). codes ",\"lines\":"
    ++ (word_value lines ++ (codes ",\"fiq\":" ++ (t ++ (codes ",\"irq\":" ++ (asserts_irq ++ codes ","))))))
    by_fiq
    ∙ ap
    (λ (t : List ℕ). codes ",\"lines\":"
    ++ (word_value lines ++ (codes ",\"fiq\":" ++ (boolean fiq ++ (codes ",\"irq\":" ++ (t ++ codes ","))))))
    by_irq

pub time_put : (stepped : Stepped) (elapsed : ℕ) (next : List ℕ) → next ≡ word_value stepped.to
    → codes "\"ticks\":"
    ++ (decimal stepped.ticks ++ (codes ",\"elapsed\":" ++ (decimal elapsed ++ (codes ",\"next\":" ++ next))))
    ≡ separated (time_members stepped elapsed)
time_put stepped elapsed next is =
    ap
    (λ (t : List ℕ). codes "\"ticks\":"
    ++ (decimal stepped.ticks ++ (codes ",\"elapsed\":" ++ (decimal elapsed ++ (codes ",\"next\":" ++ t)))))
    is

-- what ends a list of parts goes behind the last
pushed : (front part rest end onward : List ℕ) → rest ++ end ≡ onward
    → (front ++ (part ++ rest)) ++ end ≡ front ++ (part ++ onward)
pushed front part rest end onward is =
    append_assoc front (part ++ rest) end
    ∙ ap (λ (t : List ℕ). front ++ t) (append_assoc part rest end ∙ ap (λ (t : List ℕ). part ++ t) is)

five_put : (a b c d e : List ℕ)
    → codes "{\"steps\":"
    ++ (a
    ++ (codes ",\"ticks\":"
    ++ (b
    ++ (codes ",\"elapsed\":" ++ (c ++ (codes ",\"stopped\":" ++ (d ++ (codes ",\"next\":" ++ (e ++ codes "}\n")))))))))
    ≡ object
    (member (codes "steps") a
    ∷ member (codes "ticks") b
    ∷ member (codes "elapsed") c
    ∷ member (codes "stopped") d
    ∷ member (codes "next") e ∷ [])
    ++ codes "\n"
five_put a b c d e =
    let end = codes "}\n" in
    let fifth = pushed (codes ",\"next\":") e [] end end refl in
    let fourth = pushed (codes ",\"stopped\":") d (codes ",\"next\":" ++ (e ++ [])) end _ fifth in
    let third =
    pushed (codes ",\"elapsed\":") c (codes ",\"stopped\":" ++ (d ++ (codes ",\"next\":" ++ (e ++ [])))) end _ fourth in
    let second =
    pushed (codes ",\"ticks\":") b
    (codes ",\"elapsed\":" ++ (c ++ (codes ",\"stopped\":" ++ (d ++ (codes ",\"next\":" ++ (e ++ [])))))) end _ third in
    let first =
    pushed (codes "\"steps\":") a
    (codes ",\"ticks\":"
    ++ (b ++ (codes ",\"elapsed\":" ++ (c ++ (codes ",\"stopped\":" ++ (d ++ (codes ",\"next\":" ++ (e ++ []))))))))
    end _ second in
    let members : List ℕ =
    separated
    (member (codes "steps") a
    ∷ member (codes "ticks") b
    ∷ member (codes "elapsed") c
    ∷ member (codes "stopped") d
    ∷ member (codes "next") e ∷ []) in
    sym (ap (λ (t : List ℕ). codes "{" ++ t) (append_assoc members (codes "}") (codes "\n") ∙ first))

four_put : (a b c d : List ℕ)
    → codes "{\"kind\":\""
    ++ (a
    ++ (codes "\",\"word_address\":"
    ++ (b ++ (codes ",\"size\":" ++ (c ++ (codes ",\"memory\":" ++ (d ++ codes "}")))))))
    ≡ object
    (member (codes "kind") (quoted a)
    ∷ member (codes "word_address") b
    ∷ member (codes "size") c
    ∷ member (codes "memory") d ∷ [])
four_put a b c d =
    let end = codes "}" in
    let fourth = pushed (codes ",\"memory\":") d [] end end refl in
    let third = pushed (codes ",\"size\":") c (codes ",\"memory\":" ++ (d ++ [])) end _ fourth in
    let second =
    pushed (codes ",\"word_address\":") b (codes ",\"size\":" ++ (c ++ (codes ",\"memory\":" ++ (d ++ [])))) end _ third in
    let first =
    pushed (codes "\"kind\":\"") (a ++ codes "\"")
    (codes ",\"word_address\":" ++ (b ++ (codes ",\"size\":" ++ (c ++ (codes ",\"memory\":" ++ (d ++ [])))))) end _ second in
    let onward : List ℕ =
    codes ",\"word_address\":"
    ++ (b ++ (codes ",\"size\":" ++ (c ++ (codes ",\"memory\":" ++ (d ++ codes "}"))))) in
    sym
    (ap (λ (t : List ℕ). codes "{" ++ t)
    (first ∙ ap (λ (t : List ℕ). codes "\"kind\":\"" ++ t) (append_assoc a (codes "\"") onward)))

pub transfer_put : (word : Option ℕ) (m : Memory) (store : Bool) (address size : ℕ) (kind place memory : List ℕ)
    → kind ≡ transfer_kind store → place ≡ word_value address → size ≡ size_of word
    → memory ≡ word_or_null (memory_word m store address)
    → codes "{\"kind\":\""
    ++ (kind
    ++ (codes "\",\"word_address\":"
    ++ (place ++ (codes ",\"size\":" ++ (decimal size ++ (codes ",\"memory\":" ++ (memory ++ codes "}")))))))
    ≡ transfer_value word m (store, address)
transfer_put word m store address size kind place memory by_kind at bytes is =
    four_put kind place (decimal size) memory
    ∙ ap (λ (t : List ℕ). whole t place (decimal size) memory) by_kind
    ∙ ap (λ (t : List ℕ). whole (transfer_kind store) t (decimal size) memory) at
    ∙ ap (λ (n : ℕ). whole (transfer_kind store) (word_value address) (decimal n) memory) bytes
    ∙ ap (λ (t : List ℕ). whole (transfer_kind store) (word_value address) (decimal (size_of word)) t) is
  where
    whole : (kind place size memory : List ℕ) → List ℕ
    whole kind place size memory =
        object
        (member (codes "kind") (quoted kind)
        ∷ member (codes "word_address") place
        ∷ member (codes "size") size
        ∷ member (codes "memory") memory ∷ [])

pub end_put : (ran : Ran) (after : State) (stopped next : List ℕ) → stopped ≡ name_value (option_map why_name ran.stopped)
    → next ≡ word_value (address_in after.regs)
    → codes "{\"steps\":"
    ++ (decimal ran.steps
    ++ (codes ",\"ticks\":"
    ++ (decimal ran.ticks
    ++ (codes ",\"elapsed\":"
    ++ (decimal ran.elapsed ++ (codes ",\"stopped\":" ++ (stopped ++ (codes ",\"next\":" ++ (next ++ codes "}\n")))))))))
    ≡ end_line ran after
end_put ran after stopped next why at =
    five_put (decimal ran.steps) (decimal ran.ticks) (decimal ran.elapsed) stopped next
    ∙ ap (λ (t : List ℕ). whole t next) why
    ∙ ap (λ (t : List ℕ). whole (name_value (option_map why_name ran.stopped)) t) at
  where
    whole : (stopped next : List ℕ) → List ℕ
    whole stopped next =
        object
        (member (codes "steps") (decimal ran.steps)
        ∷ member (codes "ticks") (decimal ran.ticks)
        ∷ member (codes "elapsed") (decimal ran.elapsed)
        ∷ member (codes "stopped") stopped
        ∷ member (codes "next") next ∷ [])
        ++ codes "\n"
