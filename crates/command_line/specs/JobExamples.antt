-- Examples: what words ask for, as computed.
use Rattle.std.specs.Prelude.{◌≡◌, ℕ, List, [], ◌∷◌, Option, Some, None, codes, refl}
use Rattle.clap.proofs.OnLiterals.{clap_on_literals}
use Rattle.spirv_words.specs.declared.version.Version.{Version}
use Rattle.spirv_words.specs.declared.version.Version.TheVariants.{V13, V14}
use Rattle.command_line.specs.Command.{command, values_of}
use Rattle.command_line.specs.Job.{Choice, DefaultMap, TextOf, SignatureOf, Job, job_of}

abbrev translation : List ℕ → List ℕ → Choice → Version → Option Job
translation input output choice version =
    Some (record { input = input; output = output; choice = choice; version = version })

pub of_no_words : job_of [] ≡ translation (codes "-") (codes "-") DefaultMap V13
unfolding clap_on_literals command values_of
of_no_words = refl

pub of_input : job_of (codes "a" ∷ []) ≡ translation (codes "a") (codes "-") DefaultMap V13
unfolding clap_on_literals command values_of
of_input = refl

pub of_output : job_of (codes "-o" ∷ codes "b" ∷ []) ≡ translation (codes "-") (codes "b") DefaultMap V13
unfolding clap_on_literals command values_of
of_output = refl

pub of_kind : job_of (codes "-x" ∷ codes "dxbc-tpf" ∷ []) ≡ translation (codes "-") (codes "-") DefaultMap V13
unfolding clap_on_literals command values_of
of_kind = refl

pub of_other_target : job_of (codes "-b" ∷ codes "dxil" ∷ []) ≡ None
unfolding clap_on_literals command values_of
of_other_target = refl

pub of_bindings : job_of (codes "--bindings" ∷ codes "t" ∷ codes "a" ∷ [])
    ≡ translation (codes "a") (codes "-") (TextOf (codes "t")) V13
unfolding clap_on_literals command values_of
of_bindings = refl

pub of_both_bindings :
    job_of (codes "--bindings" ∷ codes "t" ∷ codes "--root-signature" ∷ codes "s" ∷ codes "a" ∷ []) ≡ None
unfolding clap_on_literals command values_of
of_both_bindings = refl

pub of_one_stream_twice : job_of (codes "--root-signature" ∷ codes "-" ∷ codes "-" ∷ []) ≡ None
unfolding clap_on_literals command values_of
of_one_stream_twice = refl

pub of_stream_and_no_input : job_of (codes "--bindings" ∷ codes "-" ∷ []) ≡ None
unfolding clap_on_literals command values_of
of_stream_and_no_input = refl

pub of_version : job_of (codes "--spirv-version" ∷ codes "1.4" ∷ [])
    ≡ translation (codes "-") (codes "-") DefaultMap V14
unfolding clap_on_literals command values_of
of_version = refl

pub of_later_version : job_of (codes "--spirv-version" ∷ codes "1.5" ∷ []) ≡ None
unfolding clap_on_literals command values_of
of_later_version = refl

pub of_sample : job_of (codes "--sample" ∷ codes "2" ∷ []) ≡ None
unfolding clap_on_literals command values_of
of_sample = refl

pub of_help : job_of (codes "--help" ∷ []) ≡ None
unfolding clap_on_literals command values_of
of_help = refl

pub of_root_signature : job_of (codes "--root-signature=s" ∷ codes "-o" ∷ codes "-" ∷ codes "--" ∷ codes "-a" ∷ [])
    ≡ translation (codes "-a") (codes "-") (SignatureOf (codes "s")) V13
unfolding clap_on_literals command values_of
of_root_signature = refl

pub of_assembly : job_of (codes "-b" ∷ codes "d3d-asm" ∷ []) ≡ None
unfolding clap_on_literals command values_of
of_assembly = refl

pub of_simulation : job_of (codes "--simulate" ∷ codes "d" ∷ codes "a" ∷ []) ≡ None
unfolding clap_on_literals command values_of
of_simulation = refl

pub of_two_inputs : job_of (codes "a" ∷ codes "b" ∷ []) ≡ None
unfolding clap_on_literals command values_of
of_two_inputs = refl

pub of_one_option_twice : job_of (codes "-o" ∷ codes "b" ∷ codes "-o" ∷ codes "b" ∷ []) ≡ None
unfolding clap_on_literals command values_of
of_one_option_twice = refl
