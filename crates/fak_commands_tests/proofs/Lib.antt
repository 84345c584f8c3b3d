mod CommandLines
mod WholeInput
