pub mod FormulaGroups
