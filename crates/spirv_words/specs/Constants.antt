-- The numbers that the code names are those of the definitions.
use Rattle.std.specs.Prelude.{◌≡◌, [], ◌∷◌, map, refl}
use Rattle.spirv_words.specs.StorageClass as storage
use Rattle.spirv_words.specs.Decoration as decorations
use Rattle.spirv_words.specs.BuiltIn as built_ins
use Rattle.spirv_words.specs.Enumerants.{MagicNumber, Version13, Version14, Shader, Logical, GLSL450, GLCompute, LocalSize, DeviceScope, WorkgroupScope, AcquireRelease, UniformMemory, WorkgroupMemory, FindILsb, FindSMsb, FindUMsb}
use Rattle.spirv_words.specs.Operations.{all_ops, number_of}
use Rattle.spirv_words.specs.declared.op.TheConstants as op
use Rattle.spirv_words.specs.declared.storage_class.TheConstants as storage_class
use Rattle.spirv_words.specs.declared.decoration.TheConstants as decoration
use Rattle.spirv_words.specs.declared.built_in.TheConstants as built_in
use Rattle.spirv_words.specs.declared.model.TheConstants as model
use Rattle.spirv_words.specs.declared.scope.TheConstants as scope
use Rattle.spirv_words.specs.declared.semantics.TheConstants as semantics
use Rattle.spirv_words.specs.declared.glsl.TheConstants as glsl

pub instructions : map number_of all_ops ≡
    op.CAPABILITY ∷ op.EXT_INST_IMPORT ∷ op.MEMORY_MODEL ∷ op.ENTRY_POINT ∷ op.EXECUTION_MODE ∷ op.DECORATE ∷
    op.MEMBER_DECORATE ∷ op.TYPE_VOID ∷ op.TYPE_BOOL ∷ op.TYPE_INT ∷ op.TYPE_VECTOR ∷ op.TYPE_ARRAY ∷
    op.TYPE_RUNTIME_ARRAY ∷ op.TYPE_STRUCT ∷ op.TYPE_POINTER ∷ op.TYPE_FUNCTION ∷ op.CONSTANT_TRUE ∷
    op.CONSTANT_FALSE ∷ op.CONSTANT ∷ op.CONSTANT_COMPOSITE ∷ op.CONSTANT_NULL ∷ op.COMPOSITE_CONSTRUCT ∷
    op.COMPOSITE_EXTRACT ∷ op.FUNCTION ∷ op.FUNCTION_END ∷ op.VARIABLE ∷ op.LOAD ∷ op.STORE ∷ op.ACCESS_CHAIN ∷
    op.ARRAY_LENGTH ∷ op.EXT_INST ∷ op.I_ADD ∷ op.I_SUB ∷ op.I_MUL ∷ op.U_DIV ∷ op.U_MOD ∷ op.I_ADD_CARRY ∷
    op.I_SUB_BORROW ∷ op.U_MUL_EXTENDED ∷ op.S_MUL_EXTENDED ∷ op.LOGICAL_OR ∷ op.LOGICAL_AND ∷ op.LOGICAL_NOT ∷
    op.SELECT ∷ op.I_EQUAL ∷ op.I_NOT_EQUAL ∷ op.U_GREATER_THAN_EQUAL ∷ op.S_GREATER_THAN_EQUAL ∷ op.U_LESS_THAN ∷
    op.S_LESS_THAN ∷ op.SHIFT_RIGHT_LOGICAL ∷ op.SHIFT_RIGHT_ARITHMETIC ∷ op.SHIFT_LEFT_LOGICAL ∷ op.BITWISE_OR ∷
    op.BITWISE_XOR ∷ op.BITWISE_AND ∷ op.NOT ∷ op.BIT_FIELD_INSERT ∷ op.BIT_FIELD_S_EXTRACT ∷
    op.BIT_FIELD_U_EXTRACT ∷ op.BIT_REVERSE ∷ op.BIT_COUNT ∷ op.CONTROL_BARRIER ∷ op.MEMORY_BARRIER ∷
    op.ATOMIC_EXCHANGE ∷ op.ATOMIC_COMPARE_EXCHANGE ∷ op.ATOMIC_I_ADD ∷ op.ATOMIC_I_SUB ∷ op.ATOMIC_S_MIN ∷
    op.ATOMIC_U_MIN ∷ op.ATOMIC_S_MAX ∷ op.ATOMIC_U_MAX ∷ op.ATOMIC_AND ∷ op.ATOMIC_OR ∷ op.ATOMIC_XOR ∷
    op.LOOP_MERGE ∷ op.SELECTION_MERGE ∷ op.LABEL ∷ op.BRANCH ∷ op.BRANCH_CONDITIONAL ∷ op.SWITCH ∷ op.RETURN ∷
    op.UNREACHABLE ∷ []
instructions = refl

pub storage_classes :
    storage.Input ∷ storage.Uniform ∷ storage.Workgroup ∷ storage.Private ∷ storage.Function ∷ storage.PushConstant ∷
    storage.StorageBuffer ∷ [] ≡
    storage_class.INPUT ∷ storage_class.UNIFORM ∷ storage_class.WORKGROUP ∷ storage_class.PRIVATE ∷
    storage_class.FUNCTION ∷
    storage_class.PUSH_CONSTANT ∷ storage_class.STORAGE_BUFFER ∷ []
storage_classes = refl

pub decorated :
    decorations.Block ∷ decorations.ArrayStride ∷ decorations.BuiltIn ∷ decorations.Coherent ∷
    decorations.NonWritable ∷ decorations.Binding ∷
    decorations.DescriptorSet ∷ decorations.Offset ∷ [] ≡
    decoration.BLOCK ∷ decoration.ARRAY_STRIDE ∷ decoration.BUILT_IN ∷ decoration.COHERENT ∷ decoration.NON_WRITABLE ∷
    decoration.BINDING ∷
    decoration.DESCRIPTOR_SET ∷ decoration.OFFSET ∷ []
decorated = refl

pub built_in_numbers :
    built_ins.WorkgroupId ∷ built_ins.LocalInvocationId ∷ built_ins.GlobalInvocationId ∷ built_ins.LocalInvocationIndex ∷ [] ≡
    built_in.WORKGROUP_ID ∷ built_in.LOCAL_INVOCATION_ID ∷ built_in.GLOBAL_INVOCATION_ID ∷ built_in.LOCAL_INVOCATION_INDEX ∷ []
built_in_numbers = refl

pub models :
    MagicNumber ∷ Version13 ∷ Version14 ∷ Shader ∷ Logical ∷ GLSL450 ∷ GLCompute ∷ LocalSize ∷ [] ≡
    model.MAGIC_NUMBER ∷ model.VERSION_1_3 ∷ model.VERSION_1_4 ∷ model.SHADER ∷ model.LOGICAL ∷ model.GLSL450 ∷
    model.GL_COMPUTE ∷ model.LOCAL_SIZE ∷ []
models = refl

pub orders :
    DeviceScope ∷ WorkgroupScope ∷ AcquireRelease ∷ UniformMemory ∷ WorkgroupMemory ∷ [] ≡
    scope.DEVICE ∷ scope.WORKGROUP ∷ semantics.ACQUIRE_RELEASE ∷ semantics.UNIFORM_MEMORY ∷
    semantics.WORKGROUP_MEMORY ∷ []
orders = refl

pub finders : FindILsb ∷ FindSMsb ∷ FindUMsb ∷ [] ≡ glsl.FIND_I_LSB ∷ glsl.FIND_S_MSB ∷ glsl.FIND_U_MSB ∷ []
finders = refl
